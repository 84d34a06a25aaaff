pub mod Bytes
pub mod Marks
pub mod Lexemes
pub mod Table
pub mod Numbers
pub mod Lines
