-- What the proofs of this crate share.
pub mod Renewing
pub mod Seeing
