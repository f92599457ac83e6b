pub mod Statements
pub mod Claims
