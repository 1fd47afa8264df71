mod Listed
mod Numbered
mod Numbers
mod Parses
pub mod Readings
mod Refusals
mod Three
pub mod Unbroken
mod Words
