pub mod Counts
pub mod Named
pub mod Sums
pub mod Words
pub mod Fields
