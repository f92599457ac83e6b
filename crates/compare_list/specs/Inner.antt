-- What contracts of inner functions need.
pub mod Due
