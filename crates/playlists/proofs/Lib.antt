-- What is proved of the definitions, for the proofs of crates that name this one.
pub mod Turns
pub mod Playlists
