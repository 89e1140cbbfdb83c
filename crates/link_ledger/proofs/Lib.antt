pub mod JournalGrowth
pub mod OwnStaysExact
mod LinkStaysInOrder
mod StepUnderLock
pub mod RepliesMakeOwn
