pub mod lemmas
pub mod Allowed
pub mod Acting
pub mod Filling
