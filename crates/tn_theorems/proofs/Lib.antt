pub mod of_programs
pub mod of_progress
pub mod of_sessions
