pub mod Lines
pub mod Walks
pub mod OnNodes
pub mod Refused
pub mod OfUsers
