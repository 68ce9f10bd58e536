pub mod EngineSteps
pub mod OptionLaws
pub mod OptionRows
pub mod lemmas
