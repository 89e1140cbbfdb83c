pub mod Whole
pub mod Turns
pub mod Telling
pub mod Order
pub mod Callers
pub mod Rounds
pub mod Pieces
pub mod Tail
