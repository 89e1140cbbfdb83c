-- The two calendars of a table, of the holds that end and of the packets that are planned, go with its rows.
pub mod Planning
pub mod HoldEnds
pub mod HoldsAgree
pub mod Expiry
pub mod Quiet
pub mod Plans
pub mod PlanRows
pub mod Holds
pub mod HoldRows
pub mod HoldSteps
