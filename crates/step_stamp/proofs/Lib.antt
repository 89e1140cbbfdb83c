pub mod ListMembers
pub mod RisingStamps
pub mod NewestShelf
mod MarkPlaces
mod ViewsRemain
mod RuleThroughChanges
mod Learning
mod Drawing
mod Meeting
mod Entering
mod OpeningSteps
mod Closing
mod EachStampOnce
