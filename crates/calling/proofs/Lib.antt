-- What is proved of the definitions, for the proofs of crates that name this one.
pub mod Records
pub mod Numbers
pub mod Commands
pub mod Sessions
pub mod Never
