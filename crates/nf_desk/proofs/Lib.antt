pub mod Counting
pub mod Desks
pub mod Entering
pub mod Giving
mod Loadings
pub mod Seen
pub mod Staying
pub mod Sweeps
mod Tellings
pub mod Turns
