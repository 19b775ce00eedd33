pub mod FrameLines
pub mod Lines
pub mod Texts
