pub mod Shifts
pub mod Bits
pub mod Mirrored
