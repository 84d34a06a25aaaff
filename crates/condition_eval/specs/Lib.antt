pub mod Marking
pub mod Tested
pub mod Combined
pub mod Within
pub mod Walking
pub mod Filtered
