pub mod Behind
pub mod Command
pub mod First
pub mod Numbers
pub mod Parsers
pub mod Reading
