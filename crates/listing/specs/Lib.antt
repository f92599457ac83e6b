pub mod Listing
pub mod Answer
pub mod Claims
pub mod Examples
