pub mod LineKinds
mod Worked
pub mod kind
pub mod Finding
pub mod Passing
pub mod Back
pub mod Auditing
