pub mod Words
mod NetworkOpened
mod ToldAtClosing
pub mod WorkedNetworks
pub mod Numbering
pub mod Held
pub mod CallSteps
pub mod PlaneSteps
