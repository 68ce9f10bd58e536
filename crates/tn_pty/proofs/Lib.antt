pub mod Shown
pub mod lemmas
pub mod Marked
pub mod Queues
