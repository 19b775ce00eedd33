pub mod Refusing
pub mod Summing
pub mod Agreeing
pub mod Tables
