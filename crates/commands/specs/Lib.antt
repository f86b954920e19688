-- What the records and answers of this crate mean.
pub mod Answers
