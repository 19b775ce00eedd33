pub mod Additions
pub mod Surcharges
