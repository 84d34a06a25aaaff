pub mod Numbers
pub mod ReadBack
pub mod Pairs
pub mod ZoneOf
pub mod Tighten
pub mod Both
pub mod Difference
