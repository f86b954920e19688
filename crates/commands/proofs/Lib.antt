-- Laws that belong to no one function.
pub mod Records
pub mod Following
pub mod Inputs
