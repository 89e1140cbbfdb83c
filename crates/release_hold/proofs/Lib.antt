pub mod NewestDecidesHold
mod Worked
