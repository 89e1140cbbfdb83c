pub mod OneMoreOffer
pub mod DistinctLinks
