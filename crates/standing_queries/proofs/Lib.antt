pub mod Pairs
pub mod Named
pub mod Watching
pub mod Keeping
pub mod Touching
pub mod DecidedTouch
pub mod Rests
