-- The carrier's contract changes while a programme is sent: what refuses the new contract, what is kept of the old plan and what is planned afresh (document 02, E12). What is claimed of it is stated in `Claims` and proved in proofs/.
pub mod NewContract
pub mod Calls
pub mod Claims
