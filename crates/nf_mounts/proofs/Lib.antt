pub mod Keys
pub mod Puts
pub mod Found
pub mod Loaded
pub mod Naming
pub mod Ensured
