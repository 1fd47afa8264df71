pub mod Seats
pub mod Calls
pub mod Closing
pub mod Visiting
