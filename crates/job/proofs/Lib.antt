-- Laws that belong to no one function.
pub mod Records
pub mod Loops
pub mod Told
pub mod Opening
pub mod Answers
