pub mod Sizes
pub mod Numbers
pub mod Rows
