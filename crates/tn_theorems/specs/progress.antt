pub mod Client
pub mod ClientSteps
pub mod Server
pub mod ServerSteps
