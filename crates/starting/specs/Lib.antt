-- Planning from given levels of the buckets, as behind another programme (document 02, E14). What is claimed of it is stated in `Claims` and proved in proofs/.
pub mod Calls
pub mod Claims
