-- What inner functions ask and proofs need.
pub mod Newly
pub mod Numbers
