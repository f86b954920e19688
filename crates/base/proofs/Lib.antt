-- What is proved of the definitions, for the proofs of crates that name this one.
pub mod Tests
pub mod All
pub mod Builds
pub mod Answers
pub mod Refusals
pub mod Lent
