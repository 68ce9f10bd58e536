pub mod Telling
pub mod Foretelling
pub mod Seats
pub mod Writing
