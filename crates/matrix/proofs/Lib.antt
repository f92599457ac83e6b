pub mod First
pub mod GlobalPhase
pub mod Operands
pub mod Questions
pub mod Asked
