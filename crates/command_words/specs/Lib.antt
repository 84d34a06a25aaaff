pub mod Sentence
pub mod Numbers
pub mod OptionsOf
pub mod Codes
