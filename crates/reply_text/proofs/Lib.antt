pub mod Written
pub mod Groups
pub mod RowValues
pub mod HeadValues
pub mod ReadBack
