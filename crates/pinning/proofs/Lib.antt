-- What is proved of the definitions, for the proofs of crates that name this one.
pub mod Inside
pub mod Lines
pub mod Checks
pub mod Agree
pub mod History
pub mod Archive
pub mod Refusals
pub mod Loops
pub mod Numbers
