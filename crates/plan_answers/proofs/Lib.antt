mod OffersKept
pub mod RefusedFirst
