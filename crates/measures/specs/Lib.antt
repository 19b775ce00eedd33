pub mod Amounts
pub mod Measures
