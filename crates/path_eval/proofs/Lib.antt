pub mod Adding
pub mod Answers
pub mod Between
pub mod Wider
pub mod WithinBoth
pub mod Finite
pub mod Fitting
mod AtOnce
mod Foreseen
pub mod Joining
pub mod Leading
pub mod Working
pub mod Marking
pub mod Climbing
pub mod KeptRows
pub mod Filled
pub mod Steps
pub mod Asked
pub mod Walking
pub mod Bounded
pub mod Diagonals
pub mod MembersWithin
pub mod Composing
pub mod Taking
pub mod Ending
mod Returning
mod Sources
mod Beyond
