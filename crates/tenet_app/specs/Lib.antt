pub mod Codes
pub mod Playing
pub mod Tallying
pub mod Making
pub mod Racing
pub mod Again
pub mod Working
pub mod Auditing
