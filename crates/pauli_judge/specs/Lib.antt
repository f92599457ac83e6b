pub mod Footprint
pub mod Sizes
pub mod Questions
pub mod Inner
