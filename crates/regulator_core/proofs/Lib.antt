pub mod LatestOfThree
pub mod NewestSuffice
pub mod ShiftedTicks
mod Worked
