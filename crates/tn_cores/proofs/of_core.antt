pub mod Typing
pub mod Doing
pub mod Marking
pub mod Refusing
