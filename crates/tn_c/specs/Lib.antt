pub mod Owning
pub mod Holding
pub mod parts
