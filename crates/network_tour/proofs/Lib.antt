pub mod TourConditions
