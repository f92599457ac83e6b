pub mod Paths
pub mod Forms
pub mod Axes
pub mod Running
pub mod Handed
