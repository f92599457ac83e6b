pub mod Within
pub mod Taken
