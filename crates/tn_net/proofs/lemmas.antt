pub mod Sent
pub mod printing
