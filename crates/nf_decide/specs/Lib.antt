pub mod Deciding
pub mod Linked
pub mod Listed
