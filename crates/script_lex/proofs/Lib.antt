pub mod Runs
pub mod Rows
pub mod Fronts
pub mod Places
pub mod OneList
pub mod Digits
pub mod NextKinds
