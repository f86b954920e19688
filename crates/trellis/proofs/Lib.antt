-- The theorems of the theory, for the proofs of crates that name this one.
pub mod Minimum
pub mod Optimality
pub mod TieOrder
pub mod Scans
pub mod Tables
pub mod Congruence
pub mod Bounds
pub mod Limit
pub mod Simulation
pub mod Sorted
pub mod Pairs
pub mod Theorems
