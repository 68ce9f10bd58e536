pub mod Folding
pub mod Reading
pub mod Sizes
pub mod Dropping
pub mod Lacking
