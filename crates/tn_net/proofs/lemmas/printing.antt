pub mod Taking
pub mod Appending
