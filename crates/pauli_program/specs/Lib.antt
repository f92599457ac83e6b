pub mod Operators
pub mod Program
pub mod Claims
