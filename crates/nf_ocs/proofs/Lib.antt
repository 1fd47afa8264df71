pub mod Asks
mod Floats
