-- The rule of one layer as code computes it, the table as words, and what planning answers and leaves. What is claimed of them is stated in `Claims` and proved in proofs/.
pub mod Rule
pub mod Passes
pub mod Prices
pub mod Words
pub mod Calls
pub mod See
pub mod Claims
pub mod Seeing
