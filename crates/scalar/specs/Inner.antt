pub mod Fitting
pub mod Powers
