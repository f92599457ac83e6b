pub mod Linking
pub mod Rows
pub mod Ready
pub mod Whole
