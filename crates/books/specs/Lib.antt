pub mod Books
pub mod Journals
pub mod Ledgers
pub mod Totals
