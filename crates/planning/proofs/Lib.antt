-- What is proved of the definitions, for the proofs of crates that name this one.
pub mod Examples
pub mod Offers
pub mod Passes
pub mod Prices
pub mod Neutral
pub mod Layers
pub mod Refilling
pub mod Reading
pub mod DemandThree
pub mod Refusals
pub mod Seeing
pub mod Rules
pub mod Sittings
