pub mod Text
pub mod Input
pub mod Inner
pub mod Claims
