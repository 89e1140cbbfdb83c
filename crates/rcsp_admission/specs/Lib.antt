pub mod Sums
pub mod Room
pub mod Lines
pub mod Kept
pub mod Index
pub mod Fields
pub mod Loads
