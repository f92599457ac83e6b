pub mod Numbers
pub mod Questions
