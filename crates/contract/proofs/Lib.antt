-- Laws that belong to no one function.
pub mod Buckets
pub mod Lines
