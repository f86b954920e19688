-- Laws that belong to no one function.
pub mod Blocks
pub mod Sizes
pub mod Rates
pub mod Rows
pub mod Column
pub mod Swaps
