-- Packets on their way from one link to the next, each in time.
pub mod FlightOrigins
pub mod Punctual
