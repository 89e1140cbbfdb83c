pub mod Runs
pub mod Starts
pub mod Points
pub mod Least
pub mod Rooms
pub mod Ranges
pub mod Rows
