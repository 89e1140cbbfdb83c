pub mod Planes
pub mod PlaneAccount
pub mod Carried
pub mod Rounds
pub mod Windows
pub mod Coming
pub mod QuietRounds
pub mod AskedRuns
