pub mod Noted
pub mod Single
pub mod Trials
