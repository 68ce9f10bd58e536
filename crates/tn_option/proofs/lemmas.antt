pub mod Agreement
pub mod OptionLaws
