pub mod Rows
pub mod Swaps
