mod Days
pub mod Written
