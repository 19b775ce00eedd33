pub mod Framing
pub mod Reading
pub mod Sound
pub mod Writes
pub mod Valued
pub mod Spelled
