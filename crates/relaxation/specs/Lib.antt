pub mod Allotment
pub mod Laws
