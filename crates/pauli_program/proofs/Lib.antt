pub mod Mixed
pub mod Weights
pub mod Steps
pub mod Whole
pub mod Counting
pub mod Ties
pub mod Claims
