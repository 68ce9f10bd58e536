pub mod Codes
pub mod OptionCodes
pub mod Masks
pub mod Payloads
pub mod PayloadOf
pub mod Counted
