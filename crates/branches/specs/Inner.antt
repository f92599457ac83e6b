-- What inner functions ask and proofs need.
pub mod Store
pub mod Bank
pub mod Step
pub mod Project
pub mod Run
