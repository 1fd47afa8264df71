pub mod Asked
pub mod Bodies
pub mod Parameters
pub mod People
pub mod Read
pub mod Sent
pub mod Told
