pub mod Tokens
pub mod Forms
pub mod Reading
pub mod Writing
pub mod Claims
pub mod Inner
pub mod Examples
