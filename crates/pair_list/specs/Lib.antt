pub mod Pairs
pub mod Inner
