-- Packets on their way, taken by the link that they reach.
pub mod FlightQueue
pub mod QueueTicks
pub mod LegLaw
pub mod ReadyLaw
pub mod ReadyRun
