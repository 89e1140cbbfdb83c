pub mod Contract
pub mod Refusal
pub mod Keeping
pub mod Window
pub mod Eligible
pub mod Admission
