pub mod Journals
pub mod Owners
pub mod Order
pub mod Own
pub mod Tokens
