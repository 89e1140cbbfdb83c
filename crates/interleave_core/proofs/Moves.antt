-- Packets that are planned, offered, cancelled and shifted, and what a move makes of them.
pub mod MoveLaw
pub mod TotalLaw
pub mod Emptied
pub mod MoveTotal
pub mod LastPackets
pub mod MoveSteps
pub mod Given
