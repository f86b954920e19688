-- Laws that belong to no one function.
pub mod Setting
pub mod Records
