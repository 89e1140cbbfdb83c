pub mod RunRows
pub mod PacketOf
pub mod RunSound
pub mod RunDeparts
pub mod RunIsSound
pub mod RunAccepted
pub mod SmallRuns
pub mod GivenLevels
