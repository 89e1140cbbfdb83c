pub mod Draws
pub mod Loads
pub mod Made
pub mod TurnRuns
pub mod SeenTurns
