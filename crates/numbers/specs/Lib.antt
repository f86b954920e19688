-- The parts of a set's numbers.
pub mod Parts
