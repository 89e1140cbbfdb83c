-- The calls of an owner, step by step: setup, sends, moves and teardown.
pub mod CallsInTurn
pub mod PassAfterStep
pub mod MoveSteps
pub mod MoveGoesOn
pub mod SubmitsOfCalls
pub mod LastPlanned
pub mod SetupGoes
pub mod SetupUnderWay
pub mod TeardownGoesOn
