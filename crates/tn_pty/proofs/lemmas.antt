pub mod Fronts
pub mod Typed
pub mod Quiet
pub mod Joining
