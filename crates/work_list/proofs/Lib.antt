pub mod Zeros
pub mod Weighing
pub mod Claims
pub mod Answering
