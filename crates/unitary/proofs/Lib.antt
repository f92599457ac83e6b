pub mod Branch
pub mod Accepting
pub mod IsUnitary
