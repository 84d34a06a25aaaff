pub mod Texts
pub mod JsonTexts
pub mod Said
pub mod Examples
pub mod Pieces
