pub mod Bringing
mod Moving
pub mod Taking
