-- What holds in every state of a link: a sound account, and one that stands for a history.
pub mod Room
pub mod Stood
pub mod Rows
pub mod Packets
pub mod Setup
pub mod Taking
pub mod Sources
pub mod Service
pub mod Best
pub mod Served
pub mod Tick
pub mod Numbers
pub mod Serves
