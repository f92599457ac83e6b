pub mod Summing
pub mod Entries
pub mod Linking
pub mod Strides
pub mod Records
pub mod Answers
pub mod Reading
pub mod Claims
