mod Zeros
pub mod Settings
