-- What inner functions ask and proofs need.
pub mod Readable
pub mod Strides
