pub mod Keeping
pub mod Room
