pub mod Tellings
pub mod Demands
pub mod Memories
pub mod Histories
pub mod Replays
