-- What an engine keeps of a run: its links and its actors, and each step of theirs.
pub mod Lookups
pub mod OneByOne
pub mod KeptLinks
pub mod SplitLinks
pub mod KeptActors
pub mod NextStep
pub mod EngineStep
pub mod NextPlaneStep
