pub mod ChainLaws
pub mod PowerLaws
pub mod UnionLaws
pub mod Results
pub mod Squaring
pub mod Uniting
pub mod Order
mod Foreseeing
pub mod Growth
pub mod Steps
pub mod Doubles
pub mod LastPowers
