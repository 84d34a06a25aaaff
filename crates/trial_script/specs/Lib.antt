pub mod Draws
pub mod Script
pub mod Left
