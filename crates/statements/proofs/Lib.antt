pub mod Counting
pub mod Gates
