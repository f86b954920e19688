-- What is proved of the answers, for the proofs of crates that name this one.
pub mod Levels
pub mod Lists
pub mod Turning
pub mod Parts
pub mod Running
pub mod Listing
