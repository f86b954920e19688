pub mod Put
pub mod Back
