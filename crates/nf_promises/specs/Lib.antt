pub mod Room
pub mod Complete
pub mod Kept
pub mod Acknowledged
pub mod Faults
