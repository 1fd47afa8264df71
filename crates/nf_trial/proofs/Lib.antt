pub mod Steps
pub mod Struck
