pub mod Lists
pub mod Kept
pub mod KindLemmas
pub mod LivesLemmas
pub mod Whole
