pub mod Sent
pub mod Joined
pub mod Bytes
pub mod Turns
