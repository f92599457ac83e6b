-- What inner functions answer and ask.
pub mod Judging
