pub mod Texts
pub mod ScopeTexts
pub mod Examples
