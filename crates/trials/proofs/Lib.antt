-- What is proved of the definitions, for the proofs of crates that name this one.
pub mod Draws
pub mod Drawn
pub mod Trials
pub mod Examples
