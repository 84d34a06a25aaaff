pub mod Terms
pub mod Sizes
pub mod Walks
pub mod Meaning
pub mod Codes
