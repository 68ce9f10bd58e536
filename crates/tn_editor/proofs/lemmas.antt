pub mod Typing
pub mod AsBefore
pub mod Recalling
pub mod Entering
