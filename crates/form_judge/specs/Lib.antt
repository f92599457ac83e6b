pub mod Faults
pub mod Inner
