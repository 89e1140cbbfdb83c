pub mod QuietRounds
mod ComingInOrder
mod FirstDueFlight
pub mod WithoutFirst
mod LaterFlights
mod AskedRuns
pub mod PlaneFlights
mod RestOfRound
pub mod TicksPerLink
mod TicksLeft
pub mod AskedInWindow
