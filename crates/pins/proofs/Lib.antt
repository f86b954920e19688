-- Laws that belong to no one function.
pub mod Calls
pub mod Totals
pub mod Answering
pub mod Opens
