pub mod OfferPlaces
pub mod OneSortedList
pub mod KeptRows
