pub mod Lists
pub mod Marks
pub mod Views
pub mod Placing
pub mod Rule
pub mod Laws
pub mod Seats
pub mod Opening
