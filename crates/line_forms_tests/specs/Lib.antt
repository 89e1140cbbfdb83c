pub mod TwoNames
