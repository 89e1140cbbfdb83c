pub mod Allotted
pub mod LevelBounds
pub mod Limits
pub mod Numbers
pub mod Padded
pub mod Quotient
pub mod Text
