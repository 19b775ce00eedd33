pub mod Sizes
pub mod Classes
pub mod Legs
pub mod Owed
pub mod Margins
