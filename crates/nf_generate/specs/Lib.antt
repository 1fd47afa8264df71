pub mod Drawing
pub mod Messages
pub mod Writing
