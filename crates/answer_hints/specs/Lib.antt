pub mod Relaxed
pub mod RuledOut
pub mod Repeated
pub mod Texts
pub mod Examples
