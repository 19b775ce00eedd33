pub mod Drafts
pub mod Filled
pub mod Rates2020
pub mod Readings
pub mod Sheets
