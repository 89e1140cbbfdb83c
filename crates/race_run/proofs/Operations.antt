-- What an actor's operations ask and tell, one after the other, and where its script ends.
pub mod ChannelsInScript
pub mod PacketsLearnt
pub mod TaskEntries
pub mod BetweenOperations
pub mod OperationAtPlace
pub mod OpenOver
pub mod SendOver
pub mod CloseOver
pub mod MoveOver
pub mod ScriptEnds
