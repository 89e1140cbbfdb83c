-- The rows with a packet for the tick take it, one after another.
pub mod Take
pub mod Steps
pub mod Rows
pub mod Turns
