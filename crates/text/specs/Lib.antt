pub mod Ascii
pub mod Decimal
pub mod Page
pub mod Claims
pub mod Inner
