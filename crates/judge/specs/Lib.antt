pub mod Delivered
pub mod Call
pub mod Layered
pub mod Inner
