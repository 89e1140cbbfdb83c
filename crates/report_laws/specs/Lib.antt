pub mod Offered
pub mod Rows
pub mod Bounds
pub mod Delivered
pub mod Counts
pub mod RowDelays
