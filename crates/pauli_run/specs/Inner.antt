-- What inner functions ask and proofs need.
pub mod Operators
pub mod Run
