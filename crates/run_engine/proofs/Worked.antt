-- Worked runs, computed from the definitions.
pub mod Networks
mod Setups
mod Moves
mod Schedules
