pub mod Channels
pub mod Flights
pub mod Delays
pub mod Moves
pub mod Cores
