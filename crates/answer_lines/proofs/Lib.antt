pub mod Choices
pub mod Fits
