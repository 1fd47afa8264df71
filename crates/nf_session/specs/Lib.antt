pub mod Book
pub mod Steps
pub mod Files
pub mod Turn
pub mod Session
pub mod Connections
pub mod Laws
pub mod Prelude
