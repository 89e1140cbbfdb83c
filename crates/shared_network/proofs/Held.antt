-- What a link holds of a channel, as the own entries of its owner tell it.
pub mod HoldsByOwner
pub mod HoldSteps
pub mod ContractKept
pub mod StillHolds
pub mod HeldOnContract
pub mod OtherChannels
pub mod UnsentMarks
