-- Laws that belong to no one function.
pub mod Calling
pub mod Making
pub mod Answering
