-- What writing a field means.
pub mod Written
