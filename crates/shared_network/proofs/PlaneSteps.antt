-- The steps of the plane over a network.
pub mod RoundReplies
pub mod OwnRounds
pub mod RoundTicks
pub mod RoundSteps
