-- What the actors ask: the tasks of a caller, and how many steps an actor has.
pub mod SingleAskTask
pub mod TaskNotes
pub mod CallerAsksFit
pub mod TaskAsks
pub mod OwnTasks
pub mod EachSetup
pub mod SetupOnce
pub mod LinksAsked
pub mod StepsRunOut
pub mod OpsFew
pub mod StepCounts
