pub mod Places
pub mod Questions
