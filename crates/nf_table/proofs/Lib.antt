pub mod Looked
pub mod Backs
pub mod Kept
pub mod Leans
pub mod Fronts
pub mod Over
pub mod Dropped
