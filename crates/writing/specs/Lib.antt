-- Writing a job from its header and lists: what is written and what is refused (document 02, E1). What is claimed of it is stated in `Claims` and proved in proofs/.
pub mod Lists
pub mod Calls
pub mod Claims
