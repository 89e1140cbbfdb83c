pub mod Blocks
pub mod Fetching
pub mod Outlooks
pub mod Putting
pub mod Gathering
pub mod Settling
pub mod Supplying
