-- Laws that belong to no one function.
pub mod Blocks
pub mod Near
pub mod Choices
pub mod Offers
pub mod Decoding
