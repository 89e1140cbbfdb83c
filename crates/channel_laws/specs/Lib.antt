pub mod Asks
pub mod Channels
pub mod Departing
pub mod Sources
pub mod Reservations
pub mod Unsent
pub mod Laws
