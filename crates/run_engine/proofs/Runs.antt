-- Runs, and their parts on each link and for each actor.
pub mod RunLegal
pub mod EachRun
pub mod RunOf
pub mod PartLaws
pub mod PartsRun
pub mod Merge
pub mod WeaveLaw
pub mod RunFronts
pub mod RunLength
