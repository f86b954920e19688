-- Laws that belong to no one function.
pub mod Searching
pub mod Places
pub mod Moves
pub mod Plans
