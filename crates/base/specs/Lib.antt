-- Lists and tests that are not of the planner: a value that is there by a test, lists that a loop builds, lists that are lent, and refusals in order.
pub mod If
pub mod All
pub mod Lists
pub mod Answer
pub mod Refusals
pub mod Lent
pub mod Evaluate
