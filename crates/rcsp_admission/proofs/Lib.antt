pub mod WorkByRow
pub mod StaysAdmitted
pub mod LastFullLevel
pub mod OneRowPerKey
pub mod OnePlacePerKey
pub mod IndexFollowsRows
pub mod RunningLoads
pub mod LinesBelowWork
