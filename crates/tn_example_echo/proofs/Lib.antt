pub mod Echoing
pub mod Saying
