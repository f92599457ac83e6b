-- What inner functions ask and proofs need.
pub mod Words
pub mod Kinds
pub mod Entries
pub mod Accepted
pub mod Rows
pub mod Tables
