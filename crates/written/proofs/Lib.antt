-- Laws that belong to no one function.
pub mod Headers
pub mod Answering
