-- Cases of replay, of planning and of calls, worked out by hand: what is asked, and what is answered. They stand apart from the definitions that they try, since each table is computed, and an edit of a definition would compute it again.
pub mod Replaying
pub mod Planning
pub mod Enlarging
pub mod Playlists
pub mod Calling
