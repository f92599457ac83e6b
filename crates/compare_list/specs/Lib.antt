pub mod Words
pub mod Call
pub mod Claims
pub mod Inner
