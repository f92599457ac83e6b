pub mod Gathered
pub mod Blocks
pub mod Faults
pub mod Headers
