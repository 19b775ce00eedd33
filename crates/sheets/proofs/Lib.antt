pub mod Places
pub mod Asked
pub mod Growth
pub mod Filling
pub mod Passing
