pub mod Firsts
pub mod Choosing
pub mod Counting
pub mod Sweeping
