pub mod ServerTurns
pub mod ClientTurns
pub mod Transcribing
pub mod Sessions
pub mod Noting
pub mod Plain
pub mod workers
