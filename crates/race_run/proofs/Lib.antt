pub mod Lists
pub mod Weave
pub mod Operations
pub mod PieceSteps
