pub mod Exact
pub mod Inner
pub mod Claims
