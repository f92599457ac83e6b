pub mod Dense
pub mod Branch
pub mod Blocks
