pub mod Begins
pub mod Ends
pub mod Linked
pub mod Needs
pub mod Own
pub mod Told
pub mod Versions
