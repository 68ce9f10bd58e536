pub mod Grammar
pub mod Telling
pub mod Trimming
pub mod lemmas
