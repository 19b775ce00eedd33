mod Filled
pub mod Said
