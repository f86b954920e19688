-- Programmes that are sent back to back: a list of jobs, each planned from the bucket levels at which the last one ended (document 02, E14). What is claimed of it is stated in `Claims` and proved in proofs/.
pub mod Calls
pub mod Claims
