pub mod Desks
pub mod Entries
pub mod Intakes
pub mod LineFaults
pub mod Reading
