pub mod Few
pub mod Promises
