-- What inner functions ask and proofs need.
pub mod Turns
