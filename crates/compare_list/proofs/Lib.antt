pub mod Along
pub mod Claims
