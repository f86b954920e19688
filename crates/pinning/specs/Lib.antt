-- The set of pins, document 01's desk, as mathematics: the check against a job, what opening, a pin and a lift answer, and a list of such calls. What is claimed of them is stated in `Claims` and proved in proofs/.
pub mod PinSet
pub mod Check
pub mod Calls
pub mod Numbers
pub mod Claims
pub mod NumberClaims
