pub mod Clients
pub mod Faults
pub mod Sent
pub mod Talks
pub mod Texts
pub mod Warnings
