-- The rows of a table: where one stands, and what the table keeps beside them.
pub mod Places
pub mod Placed
pub mod Parts
pub mod Ticks
pub mod Index
pub mod Sums
pub mod Keeping
pub mod Totals
