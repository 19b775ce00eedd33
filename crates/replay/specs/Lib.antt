pub mod Scripts
pub mod Days
pub mod Words
