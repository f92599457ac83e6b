pub mod Sound
pub mod Covers
pub mod Asked
pub mod Head
pub mod Started
pub mod Listed
