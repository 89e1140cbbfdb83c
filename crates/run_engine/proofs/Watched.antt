-- What an engine and its watcher make of a run, step by step and by strides.
pub mod WatchedSteps
pub mod QuietRounds
pub mod RestedRounds
pub mod WatchedStrides
