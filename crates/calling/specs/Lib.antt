-- Pins and lifts as numbers: command records behind a job and calls as numbers, whole sessions of calls with the planning or the replay after them, and what the program reads. What is claimed of them is stated in `Claims` and proved in proofs/.
pub mod Commands
pub mod Sessions
pub mod Claims
