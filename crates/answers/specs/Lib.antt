pub mod Utf8
pub mod Numbers
pub mod States
pub mod Places
pub mod Reasons
pub mod Claims
pub mod Inner
