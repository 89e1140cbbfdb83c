pub mod Promises
pub mod Trails
