pub mod Bringing
pub mod Ending
