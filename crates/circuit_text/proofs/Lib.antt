pub mod Pieces
pub mod Shapes
pub mod Judging
pub mod Claims
