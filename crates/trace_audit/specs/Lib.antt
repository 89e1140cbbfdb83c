pub mod Terms
pub mod Above
pub mod Checks
pub mod Words
pub mod Bounds
pub mod Kept
pub mod Standing
pub mod Departures
