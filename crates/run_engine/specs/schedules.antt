-- How a schedule is played, what stands for the run meanwhile, and its watcher.
pub mod Standing
pub mod Schedules
pub mod Watching
pub mod Quiet
pub mod Resting
pub mod PlaneSteps
pub mod Lagging
