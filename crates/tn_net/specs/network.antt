pub mod Asked
pub mod Dialing
