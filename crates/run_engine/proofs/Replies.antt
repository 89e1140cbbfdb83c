-- Which replies the asks of a run get, and what a request comes to.
pub mod RunGoes
pub mod ClosingStands
pub mod OwnerKinds
pub mod ClosingSteps
pub mod RunCloses
pub mod Replying
pub mod VerdictHolds
pub mod OwnerVerdict
