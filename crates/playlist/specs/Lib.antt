-- What the answers of this crate mean, and what its private functions say and ask.
pub mod Answers
