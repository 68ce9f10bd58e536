pub mod Modes
pub mod Triples
pub mod Exchange
pub mod Repeating
pub mod Words
pub mod Prefixes
pub mod OptionWords
pub mod Folding
