pub mod Places
pub mod DueByTicks
mod Worked
pub mod Chains
pub mod Ahead
pub mod Links
pub mod WheelStaysRight
pub mod TurnKeepsWaiting
pub mod Slots
pub mod TakesWhatIsDue
