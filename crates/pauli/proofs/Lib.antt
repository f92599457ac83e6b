pub mod Operations
pub mod Known
pub mod Branches
pub mod Running
