pub mod BurstIsPositive
pub mod PartsKeepContract
pub mod NewestFirst
pub mod LeastEligibleTick
pub mod WindowsAreBounded
pub mod LongerWindows
pub mod AdmissionTest
pub mod LoadLimits
pub mod NoNumberFails
pub mod TicksInOrder
mod Worked
