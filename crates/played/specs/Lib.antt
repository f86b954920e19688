-- What the functions of this crate ask and say.
pub mod Answers
