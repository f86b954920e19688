-- What the functions of this crate say of a block of words.
pub mod Blocks
