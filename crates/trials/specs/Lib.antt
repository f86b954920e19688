-- Trial jobs: the stream of draws from a starting state, the job that they make, and the call that writes it (document 02, E11). What is claimed of it is stated in `Claims` and proved in proofs/.
pub mod Draws
pub mod Calls
pub mod Claims
