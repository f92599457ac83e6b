pub mod Sums
pub mod Bits
pub mod Most
pub mod Claims
