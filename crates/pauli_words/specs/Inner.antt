-- What inner functions ask and proofs need.
pub mod Masks
pub mod Code
