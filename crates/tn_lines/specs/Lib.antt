pub mod LineEnds
pub mod Said
pub mod Edges
pub mod Ending
pub mod Logs
pub mod Openings
pub mod Talking
