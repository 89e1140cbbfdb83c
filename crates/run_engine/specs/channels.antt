-- A channel in a run: its hops and its path, its packets on their way, and what a move keeps of it.
pub mod Hops
pub mod Paths
pub mod Flights
pub mod Moves
pub mod Departures
