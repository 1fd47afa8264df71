pub mod Walks
pub mod Lists
pub mod Order
pub mod Parts
pub mod Kept
pub mod Around
