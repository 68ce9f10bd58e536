pub mod Transcripts
pub mod Returned
pub mod Theorem
pub mod Example
pub mod Answers
pub mod OneLoop
