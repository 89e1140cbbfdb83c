-- What the journals of a race tell: the run that they weave to, its order and its schedule.
pub mod WeaveIsRun
pub mod StampTable
pub mod EntriesInOrder
pub mod ToldInOrder
pub mod RunByActors
pub mod ScheduleCounts
pub mod StampsLeft
