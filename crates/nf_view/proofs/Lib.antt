pub mod Sizes
pub mod Taken
pub mod TrashSums
