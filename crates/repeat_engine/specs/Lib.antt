pub mod Powers
pub mod Composed
pub mod GrownUnions
pub mod RaisedPowers
pub mod Relations
