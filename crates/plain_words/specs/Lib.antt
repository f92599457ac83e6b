pub mod Plain
pub mod Claims
