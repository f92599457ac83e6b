pub mod Delivered
pub mod Call
pub mod Known
pub mod Inner
