pub mod Writable
pub mod Accepted
pub mod Running
