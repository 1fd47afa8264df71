pub mod Aged
pub mod Outgoing
pub mod Laws
