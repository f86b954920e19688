-- Laws that belong to no one function.
pub mod Both
pub mod Testing
pub mod Verdicts
pub mod Rest
pub mod Over
