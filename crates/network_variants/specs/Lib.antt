pub mod Variants
pub mod Joined
