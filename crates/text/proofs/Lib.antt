pub mod Read
pub mod Put
pub mod Digits
pub mod RoundTrip
