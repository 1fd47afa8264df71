pub mod Along
pub mod Indexes
pub mod Sorted
pub mod Ending
pub mod Moves
