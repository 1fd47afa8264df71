pub mod Answers
pub mod Counts
pub mod Listed
pub mod Same
pub mod Wanted
