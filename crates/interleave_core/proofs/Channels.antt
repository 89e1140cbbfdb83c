-- The packets of an accepted channel at the links of its route, and what it is guaranteed.
pub mod AcceptedPath
pub mod KeptRequest
pub mod FarHolds
pub mod OwnerEntries
pub mod ChainLaw
pub mod LevelsHold
pub mod AcceptedOnly
pub mod SentRows
pub mod AskedOnce
pub mod GuaranteeLaw
