pub mod Plays
pub mod SourceTallies
pub mod ChannelDelays
pub mod ChannelRows
pub mod PromisesOfRuns
