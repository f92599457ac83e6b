pub mod Verdict
pub mod Questions
