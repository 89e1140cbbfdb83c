-- A channel in a run: what was sent, kept and shifted, what is guaranteed, and the laws.
pub mod Kept
pub mod Sent
pub mod Guarantee
pub mod Shifting
pub mod Laws
