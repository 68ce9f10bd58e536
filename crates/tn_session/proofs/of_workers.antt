pub mod Counting
pub mod Reading
pub mod Stopping
pub mod Talk
pub mod Telling
