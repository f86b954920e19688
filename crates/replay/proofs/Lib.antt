-- Laws that belong to no one function.
pub mod Levels
pub mod Replaying
pub mod Answering
