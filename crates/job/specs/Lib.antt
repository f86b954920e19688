-- What the reader's answers mean.
pub mod Answers
