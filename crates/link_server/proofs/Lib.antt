-- The lemmas of this crate.
pub mod Words
pub mod Sourcing
pub mod Waiting
pub mod Replies
pub mod RowsOfTable
pub mod Calendars
pub mod Sound
pub mod Departed
pub mod EveryHistoryAgrees
pub mod ChosenLevel
mod KeyedValues
mod KeyPlaces
pub mod LinkRests
pub mod SureAsks
