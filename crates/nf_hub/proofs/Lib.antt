pub mod Owning
mod Seeing
mod Following
mod Knowing
mod Joining
mod Telling
mod Asking
mod Ending
mod Tickets
mod Closing
mod Sweeping
mod Turning
pub mod Sending
