pub mod Listing
pub mod Room
pub mod Answers
pub mod Inputs
pub mod Printing
pub mod Examples
