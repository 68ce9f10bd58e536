pub mod lemmas
pub mod Growing
pub mod Loans
pub mod Undoing
pub mod Bounding
pub mod Dropping
pub mod Roles
