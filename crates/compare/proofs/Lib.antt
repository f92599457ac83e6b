pub mod Scanning
pub mod Merging
pub mod Alike
pub mod Merged
pub mod First
pub mod Stores
pub mod Claims
