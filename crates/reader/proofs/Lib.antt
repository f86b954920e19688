-- Laws that belong to no one function.
pub mod Fields
pub mod Codings
pub mod Answering
