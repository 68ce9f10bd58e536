pub mod Spelled
pub mod Ends
pub mod Talks
pub mod Shown
pub mod Steps
pub mod NewLines
pub mod Ticking
