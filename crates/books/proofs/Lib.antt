pub mod Accounts
pub mod Bookings
pub mod Limits
pub mod Questions
pub mod Sums
pub mod Walks
pub mod Tables
