-- Laws that belong to no one function.
pub mod Drawing
pub mod Refusing
pub mod Answering
