pub mod Mixed
pub mod Still
