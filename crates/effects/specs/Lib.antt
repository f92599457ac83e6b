pub mod Effects
pub mod Inner
pub mod Claims
