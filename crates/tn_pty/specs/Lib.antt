pub mod Terminal
pub mod Runs
pub mod Typing
pub mod Faults
pub mod Waiting
