-- Packets that are planned: what the last submit of a channel asked for, and what the submit of a move plans.
pub mod JoinedPlans
pub mod SizesKept
