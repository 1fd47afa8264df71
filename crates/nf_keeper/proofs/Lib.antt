pub mod Rows
pub mod Found
pub mod Kept
pub mod Together
