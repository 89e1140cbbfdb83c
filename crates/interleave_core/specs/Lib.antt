pub mod channels
pub mod Cores
