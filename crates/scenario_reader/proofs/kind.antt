-- The kinds of lines, each with what its form says; that it may add what it says, where it passes; and that the line of a plan is read back.
pub mod Link
pub mod Group
pub mod Caller
pub mod Quota
pub mod Request
pub mod RequestBack
pub mod Using
pub mod Send
pub mod Close
pub mod Move
pub mod Pour
pub mod Rounds
pub mod Schedule
pub mod HeaderBack
