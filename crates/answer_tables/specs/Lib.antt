pub mod Jitters
pub mod Ranges
pub mod Rows
pub mod Together
