-- A trellis: its walks, the least total cost of a walk, the first walk in tie order that has it, and the table of the least costs by stages.
pub mod Minimum
pub mod Trellis
pub mod Limit
pub mod Table
pub mod Pairs
pub mod Claims
