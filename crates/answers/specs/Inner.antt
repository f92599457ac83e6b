-- What contracts of inner functions need.
pub mod Sums
pub mod Lines
