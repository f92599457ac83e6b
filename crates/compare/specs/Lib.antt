pub mod Compare
pub mod Inner
pub mod Claims
