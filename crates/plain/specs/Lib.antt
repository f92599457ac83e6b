pub mod Profile
pub mod Questions
pub mod Call
pub mod Claims
