pub mod Inner
pub mod Delivered
