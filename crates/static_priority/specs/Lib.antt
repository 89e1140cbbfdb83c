pub mod Queues
pub mod Room
