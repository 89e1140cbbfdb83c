pub mod BoundsInOrder
pub mod NameIsText
pub mod KnownByNumber
pub mod ListSteps
pub mod ListPlaces
pub mod ByCases
mod Worked
