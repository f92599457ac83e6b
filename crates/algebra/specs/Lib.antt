pub mod Ops
pub mod Quadratic
pub mod Dyadic
pub mod Sum
pub mod Lists
pub mod Schedule
pub mod Words
pub mod Inner
