pub mod Tallies
pub mod Shown
