pub mod lemmas
pub mod Taking
pub mod Announcing
pub mod Offers
pub mod Ending
pub mod Filling
