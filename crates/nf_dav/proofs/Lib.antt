pub mod Asked
pub mod Floats
pub mod Named
pub mod NotAsked
