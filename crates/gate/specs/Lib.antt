pub mod Gate
pub mod Kinds
pub mod Operators
pub mod Embed
pub mod Questions
pub mod Embedding
pub mod Inner
