pub mod Entries
pub mod Examples
pub mod Follows
pub mod Found
pub mod Near
pub mod Reach
pub mod Steps
pub mod Touched
