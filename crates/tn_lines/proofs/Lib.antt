pub mod Ends
pub mod Reading
pub mod Showing
pub mod Writing
pub mod FirstBytes
pub mod Going
pub mod Ending
