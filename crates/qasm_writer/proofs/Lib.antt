pub mod Lines
pub mod Asked
pub mod Lengths
pub mod Back
pub mod Examples
