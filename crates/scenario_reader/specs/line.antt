-- The kinds of lines of a scenario, each with its form, the rules by which it is judged, what it says and may add, and its text.
pub mod Before
pub mod Header
pub mod Link
pub mod Group
pub mod Caller
pub mod Quota
pub mod Request
pub mod Using
pub mod Send
pub mod Close
pub mod Move
pub mod Pour
pub mod Operation
pub mod Rounds
pub mod Schedule
pub mod Table
