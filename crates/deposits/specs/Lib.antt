pub mod Told
pub mod Records
pub mod Walks
pub mod Deposits
pub mod Legs
