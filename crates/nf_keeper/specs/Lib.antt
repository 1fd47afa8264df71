pub mod Keeping
pub mod Views
pub mod Memory
pub mod Spelled
