pub mod Machine
pub mod Own
pub mod Outcomes
pub mod Outlets
pub mod Ports
pub mod Settings
pub mod Statuses
