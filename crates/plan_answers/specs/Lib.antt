pub mod Delays
pub mod Offers
pub mod Rooms
pub mod Trials
