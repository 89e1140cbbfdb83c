-- How a schedule is played.
pub mod ScheduleOutcome
pub mod PlayedTurns
