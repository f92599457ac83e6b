pub mod Accepted
pub mod Axes
pub mod Counted
pub mod Numbers
