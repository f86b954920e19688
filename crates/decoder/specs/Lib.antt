-- What the functions of the first pass say and ask.
pub mod Answers
pub mod Near
