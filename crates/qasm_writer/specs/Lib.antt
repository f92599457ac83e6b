pub mod Call
pub mod Claims
pub mod Inner
pub mod Examples
