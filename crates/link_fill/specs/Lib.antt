pub mod Fills
pub mod Fillings
