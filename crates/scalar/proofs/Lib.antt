pub mod Questions
pub mod Claims
pub mod Same
