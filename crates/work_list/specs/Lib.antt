pub mod Serving
pub mod Claims
pub mod Inner
