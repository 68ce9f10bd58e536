pub mod Invariant
pub mod Keeps
pub mod Progress
pub mod Measure
pub mod ClientKeeps
pub mod ClientProgress
pub mod ClientMeasure
pub mod ClientQueue
