pub mod Access
pub mod Broken
pub mod Kept
pub mod Laws
pub mod Making
pub mod Mounts
pub mod Shares
