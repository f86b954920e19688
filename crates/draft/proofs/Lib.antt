-- Laws that belong to no one function.
pub mod Codings
pub mod Refusing
