-- What is proved of fields, for the proofs of crates that name this one.
pub mod Setting
