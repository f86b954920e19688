-- The tables of cases, computed from the definitions.
pub mod Replaying
pub mod Planning
pub mod Enlarging
pub mod Playlists
pub mod Calling
