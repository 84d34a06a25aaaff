pub mod Facts
pub mod Rules
pub mod Next
pub mod Sites
pub mod Changes
