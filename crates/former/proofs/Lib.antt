-- What is proved of old plans, for the proofs of this crate.
pub mod Turning
