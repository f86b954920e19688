-- What the answers of this crate mean, and what its functions ask and say.
pub mod Answers
