-- The pieces that the threads of a race make: scripts and rounds, the turns of each, and the tail that comes last.
pub mod OneMoreTurn
pub mod PlaneSteps
pub mod PlaneWithPass
pub mod RacePieces
pub mod RaceSizes
pub mod GivenUp
pub mod EarlierRounds
pub mod TailComesLast
