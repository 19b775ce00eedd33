pub mod Questions
pub mod Values
pub mod ClassSums
pub mod Portfolios
pub mod Sums
