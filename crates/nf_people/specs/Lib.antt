pub mod Names
pub mod People
pub mod Faults
