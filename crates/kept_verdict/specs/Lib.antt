pub mod Questions
pub mod Claims
