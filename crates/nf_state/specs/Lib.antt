pub mod Counts
pub mod Current
pub mod Gone
pub mod Rows
