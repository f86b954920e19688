-- What is proved of the definitions, for the proofs of crates that name this one.
pub mod NoLess
pub mod Larger
pub mod Raising
pub mod Falling
pub mod Sizes
