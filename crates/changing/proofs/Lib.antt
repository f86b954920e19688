-- What is proved of the definitions, for the proofs of crates that name this one.
pub mod Unders
pub mod Counted
pub mod Prefix
pub mod Conditions
pub mod Front
pub mod Changes
pub mod Small
