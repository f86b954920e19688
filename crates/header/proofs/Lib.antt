-- Laws that belong to no one function.
pub mod Verdicts
pub mod Fields
pub mod Drains
pub mod Told
