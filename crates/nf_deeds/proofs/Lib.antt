pub mod Copies
pub mod Joining
pub mod Owners
pub mod Refills
pub mod Walks
