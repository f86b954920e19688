-- Document 01 as mathematics: what a reader must believe. What is claimed of it is stated in `Claims` and proved in proofs/.
pub mod Job
pub mod Levels
pub mod Pins
pub mod Admissible
pub mod Step
pub mod Replay
pub mod Best
pub mod Table
pub mod Neutral
pub mod Claims
pub mod Evaluate
