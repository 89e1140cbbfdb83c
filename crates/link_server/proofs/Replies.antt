-- What the account answers to each ask, and what it is then.
pub mod Setup
pub mod Close
pub mod Arrive
pub mod Account
pub mod Ticked
pub mod Holding
pub mod Pour
