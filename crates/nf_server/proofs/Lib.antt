pub mod Posting
pub mod Spanning
pub mod Tickets
pub mod Together
pub mod Visits
pub mod Working
