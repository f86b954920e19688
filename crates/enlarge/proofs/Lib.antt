-- What is proved of the answers, for the proofs of crates that name this one.
pub mod Listing
pub mod Answering
