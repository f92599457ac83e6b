pub mod Held
pub mod Parity
pub mod Forms
pub mod Asked
