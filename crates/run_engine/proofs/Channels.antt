-- The rows and the packets of a channel at the links of its route.
pub mod HopsAt
pub mod RowsFollow
pub mod ChannelsAt
pub mod RowLevels
pub mod Leaving
pub mod PlanChannels
