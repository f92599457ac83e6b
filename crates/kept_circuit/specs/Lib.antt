pub mod Kept
pub mod Edits
pub mod Inner
