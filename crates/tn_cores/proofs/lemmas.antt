pub mod Folding
pub mod Pieces
pub mod Ending
pub mod server
pub mod client
pub mod queue
pub mod streams
