pub mod Rows
pub mod Tables
pub mod Margin
pub mod Held
pub mod Laws
