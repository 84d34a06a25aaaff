pub mod Listed
pub mod Alike
pub mod Exists
pub mod Restricting
pub mod Diagonals
pub mod Finite
pub mod Partitions
pub mod SearchLemmas
pub mod Objects
pub mod Equal
pub mod EqualZones
pub mod Keys
pub mod Pushing
pub mod Gathering
pub mod Keeping
pub mod HalfRows
pub mod LaterHalves
pub mod EvenParts
pub mod Having
pub mod Identity
pub mod Uniting
pub mod Sources
pub mod Departing
pub mod Legs
pub mod Reaching
pub mod Going
pub mod Splitting
pub mod Counting
pub mod Composing
pub mod Coalescing
pub mod Runs
pub mod Arriving
pub mod Meeting
pub mod TimesMinus
pub mod Leaving
pub mod Subtracting
pub mod TimeLaws
pub mod FiniteTimes
pub mod Merged
pub mod Alone
pub mod Giving
pub mod Settling
pub mod Sorting
pub mod StrikeLemmas
pub mod ItemZones
pub mod ApartRows
pub mod RestingRows
pub mod DirectWays
pub mod IdleRows
pub mod CutRows
pub mod Neighbours
pub mod BandWays
pub mod OffsetLemmas
mod Thinning
mod Appending
mod LeadingBack
mod SubRows
mod Joining
mod ByRows
mod Covering
mod ClearRows
