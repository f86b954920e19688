-- What is proved of the definitions, for the proofs of crates that name this one.
pub mod Lists
pub mod Own
pub mod Order
pub mod Writes
pub mod Refusals
pub mod Examples
