pub mod Sides
pub mod Values
pub mod Entries
pub mod Asked
pub mod Claims
