pub mod Watches
pub mod Touched
pub mod Changes
pub mod Stores
