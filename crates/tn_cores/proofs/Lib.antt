pub mod lemmas
pub mod of_terminal
pub mod of_core
