-- What the values of the exported calls are.
pub mod Lists
