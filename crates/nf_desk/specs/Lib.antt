pub mod Desk
pub mod Faults
pub mod Opened
pub mod Opening
pub mod Pieces
pub mod Stepping
pub mod Sweeping
