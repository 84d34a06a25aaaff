pub mod Sums
pub mod MiddleMoment
pub mod Turned
pub mod Moving
