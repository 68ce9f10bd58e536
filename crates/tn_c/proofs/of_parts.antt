pub mod Refusing
pub mod FindingRoom
pub mod Changing
pub mod Gathering
pub mod Running
pub mod Sifting
pub mod Saying
pub mod LeavingOut
