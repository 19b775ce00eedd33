pub mod Copies
pub mod Told
pub mod Steps
pub mod Lenders
