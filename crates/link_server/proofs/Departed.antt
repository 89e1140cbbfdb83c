-- The packets of each row that are here are those that it has taken, but for those that have departed.
pub mod Rows
pub mod Packets
pub mod Tick
