pub mod Nearest
pub mod Refusals
