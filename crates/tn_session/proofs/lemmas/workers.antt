pub mod Readers
pub mod Turning
