-- What a set of pins means, and what is asked of it.
pub mod Answers
