pub mod Parts
pub mod OnTime
pub mod Makings
