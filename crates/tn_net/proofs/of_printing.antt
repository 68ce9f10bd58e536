pub mod Alone
pub mod Cutting
pub mod Joining
