-- Laws that belong to no one function.
pub mod Arrays
pub mod Jobs
pub mod Candidates
pub mod Lines
pub mod Tabling
pub mod Words
