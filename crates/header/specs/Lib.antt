-- What a header and a verdict mean.
pub mod Answers
pub mod Refusals
