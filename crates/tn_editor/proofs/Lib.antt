pub mod lemmas
pub mod Bytes
pub mod Keys
pub mod EditedLines
pub mod Holding
pub mod Whole
