-- Plans as bytes, today and before they had room for a thousand choices, and what replaying one and reporting its effective buffer sizes answer and write. What is claimed of them is stated in `Claims` and proved in proofs/.
pub mod Entries
pub mod Former
pub mod Calls
pub mod Claims
