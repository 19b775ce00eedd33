pub mod Small
pub mod Summing
pub mod Telling
