pub mod Entries
pub mod Runs
pub mod Rows
pub mod Hops
pub mod SmallRows
pub mod ToldHops
