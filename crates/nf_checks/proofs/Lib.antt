pub mod Basics
pub mod Books
pub mod Goes
pub mod Scenes
pub mod Bodies
pub mod Responses
pub mod Turns
pub mod Sessions
