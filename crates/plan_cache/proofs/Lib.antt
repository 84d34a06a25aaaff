mod Growing
mod Stored
mod Rebuilt
mod Unique
mod Doing
mod AlikeLeaves
mod AlikeOperations
mod AlikeKeys
mod Placing
pub mod Adding
mod Footing
mod Forgetting
pub mod Edited
mod Known
mod Free
mod Sought
mod Renumbered
mod Former
mod Copied
mod Moved
mod Refilled
pub mod Parts
