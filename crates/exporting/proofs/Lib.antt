-- The claims of the exported calls, and laws by which the code meets its contracts.
pub mod Fields
pub mod Rooms
pub mod Counts
pub mod SetRooms
pub mod Exports
pub mod Contents
pub mod Sets
pub mod Changes
pub mod Larger
pub mod Playlists
