-- What the functions of this crate say and ask.
pub mod Answers
