pub mod Refusals
pub mod Only
