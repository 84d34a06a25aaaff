pub mod Words
pub mod Texts
pub mod Ends
pub mod Stops
pub mod Pumping
