-- What is proved of steps and totals, for the proofs of crates that name this one.
pub mod Steps
pub mod Adding
