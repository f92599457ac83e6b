pub mod Held
pub mod Mixed
pub mod Rows
