pub mod Words
pub mod Questions
pub mod Inner
