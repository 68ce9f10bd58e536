pub mod Programs
pub mod Keys
