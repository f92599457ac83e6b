pub mod Answers
pub mod Walking
pub mod Claims
