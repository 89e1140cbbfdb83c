pub mod NextByPlace
pub mod QueuesKeepRoom
pub mod PickByQueues
mod Worked
