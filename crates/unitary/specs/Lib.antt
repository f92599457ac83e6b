pub mod Unitary
pub mod Inner
pub mod IsUnitary
