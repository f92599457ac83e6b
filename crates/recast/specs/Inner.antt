-- What inner functions ask.
pub mod Records
