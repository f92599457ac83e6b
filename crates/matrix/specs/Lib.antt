pub mod Matrix
pub mod Phase
pub mod Inner
