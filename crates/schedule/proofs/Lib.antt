pub mod Along
pub mod Faults
pub mod Asked
pub mod Claims
