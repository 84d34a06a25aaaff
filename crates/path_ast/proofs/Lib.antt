pub mod Pairs
pub mod Axes
pub mod Powers
pub mod Deciding
