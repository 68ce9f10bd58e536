pub mod Judging
pub mod Jobs
