-- What the functions of the second pass say and ask.
pub mod Answers
pub mod Rates
pub mod Swaps
