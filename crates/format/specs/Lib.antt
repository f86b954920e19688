-- The bytes of a job, as mathematics: how they are read and written. What is claimed of them is stated in `Claims` and proved in proofs/.
pub mod Fields
pub mod Limits
pub mod Parser
pub mod Records
pub mod Choices
pub mod JobBytes
pub mod Places
pub mod JobA
pub mod Claims
