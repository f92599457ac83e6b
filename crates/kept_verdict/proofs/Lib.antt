pub mod Copied
pub mod Claims
