-- What numbers a list of programmes is.
pub mod Programmes
