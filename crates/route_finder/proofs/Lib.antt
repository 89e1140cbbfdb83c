pub mod CheckedRoute
pub mod WalkReadOff
pub mod LeastWalk
pub mod EdgeByEdge
pub mod NoLinkTwice
pub mod OneLeastWalk
pub mod RowEntries
pub mod FirstStep
pub mod LeastPropagations
pub mod TableRows
pub mod TracedWalk
pub mod TraceSteps
mod Worked
