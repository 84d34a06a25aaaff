pub mod Runs
pub mod KeptRuns
pub mod Plain
pub mod Places
pub mod Borders
pub mod Splices
pub mod Operations
