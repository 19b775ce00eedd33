pub mod Counts
pub mod Posting
pub mod Lent
