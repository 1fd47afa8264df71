pub mod Methods
pub mod Mounts
pub mod Rows
pub mod Targets
