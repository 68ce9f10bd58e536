pub mod Lines
pub mod Names
pub mod Printing
pub mod Texts
