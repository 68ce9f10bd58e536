pub mod Answering
pub mod Cutting
pub mod Listing
pub mod Fitting
pub mod Reading
pub mod OptionWords
pub mod Sizes
pub mod Folding
