pub mod Signs
pub mod Reading
pub mod Filling
pub mod Parts
pub mod Turns
pub mod Folds
