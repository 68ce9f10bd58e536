pub mod Telling
pub mod Masks
