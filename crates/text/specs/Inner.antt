-- What contracts of inner functions need.
pub mod Puts
pub mod Number
