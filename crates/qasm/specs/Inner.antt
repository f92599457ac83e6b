-- What contracts of inner functions need.
pub mod Scanning
pub mod Left
pub mod Pieces
pub mod Progress
