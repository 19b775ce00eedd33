mod Accepted
mod Classes
mod Decoding
mod Faulting
mod Fitting
mod Framed
mod Listed
mod Memories
mod Placing
mod Runs
mod Single
mod Splitting
mod Texts
mod Told
mod Whole
pub mod Yielding
