-- What a larger bucket brings: lines with more room, the least total of a job for each size that its first bucket may have, and the call that lists them (document 02, E13). What is claimed of it is stated in `Claims` and proved in proofs/.
pub mod Larger
pub mod Calls
pub mod Claims
