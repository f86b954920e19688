-- What is proved of the definitions, for the proofs of crates that name this one.
pub mod Entries
pub mod Flat
pub mod DemandTwo
pub mod Former
pub mod Reports
