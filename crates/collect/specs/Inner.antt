-- What inner functions ask and proofs need.
pub mod Bank
pub mod Links
