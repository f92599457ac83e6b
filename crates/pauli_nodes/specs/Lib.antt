pub mod Nodes
pub mod Operations
pub mod Claims
pub mod Inner
