pub mod Answering
pub mod Filling
pub mod Listings
pub mod Readings
pub mod Yields
