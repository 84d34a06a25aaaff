pub mod Counts
pub mod Needed
pub mod Kept
pub mod Texts
pub mod Trees
pub mod Explained
