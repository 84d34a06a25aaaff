pub mod Sentences
pub mod Digits
