pub mod Small
pub mod Numbers
pub mod Footprint
pub mod Firing
