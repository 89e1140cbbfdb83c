mod BoundsOver
mod EdgesFound
mod RangesSeen
pub mod RefusedTogether
