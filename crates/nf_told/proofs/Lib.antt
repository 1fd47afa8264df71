pub mod Orders
mod Mapped
mod Segments
mod Changed
pub mod Follows
