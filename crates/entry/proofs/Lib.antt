-- What is proved of entries, for the proofs of crates that name this one.
pub mod Shapes
pub mod Bytes
