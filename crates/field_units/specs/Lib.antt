pub mod Moments
pub mod Rounding
pub mod Scales
pub mod Streams
pub mod Serving
