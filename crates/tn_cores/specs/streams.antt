pub mod Telling
pub mod Counting
pub mod Foretelling
pub mod Known
pub mod Beside
pub mod Sending
pub mod Seats
pub mod Writing
