pub mod Again
pub mod Bounds
pub mod Counts
pub mod Judged
pub mod Names
pub mod Totals
pub mod Ways
pub mod Heaps
