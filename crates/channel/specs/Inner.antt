pub mod Kept
pub mod Shapes
