-- When a packet is eligible, and has left, at each hop of its route.
pub mod HopLaw
pub mod PathLaw
pub mod PathDelays
pub mod BufferLaw
pub mod DepartLaw
