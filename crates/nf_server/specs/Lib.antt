pub mod Doors
pub mod Links
pub mod Posts
pub mod Together
pub mod Work
