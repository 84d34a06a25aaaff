mod Fronts
pub mod Lists
pub mod Searches
pub mod Objects
pub mod PointSearch
pub mod Labels
pub mod Padding
pub mod Pieces
pub mod ShortWalks
pub mod TextOrder
