-- What the private functions of this crate say and ask.
pub mod Answers
