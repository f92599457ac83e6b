pub mod Padding
pub mod Taken
