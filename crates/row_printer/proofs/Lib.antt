pub mod Saying
pub mod Led
pub mod PieceLemmas
