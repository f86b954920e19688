-- What the exported calls answer and leave, and what is claimed of them.
pub mod Exports
pub mod Sets
pub mod Contents
pub mod Claims
pub mod ContentsClaims
pub mod SetClaims
pub mod Changes
pub mod Larger
pub mod Playlists
