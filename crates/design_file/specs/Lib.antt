pub mod Rounded
pub mod Planned
pub mod Opened
