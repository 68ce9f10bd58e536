pub mod Calm
pub mod Pictures
pub mod Relation
