pub mod Limits
pub mod Footprint
pub mod Sizes
pub mod Questions
pub mod Layers
pub mod Claims
pub mod Inner
