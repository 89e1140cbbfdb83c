-- The text of a plan is read as that plan and its schedule, part by part.
pub mod LineText
pub mod RulesBack
pub mod NamedBack
pub mod SaysBack
pub mod WalkBack
pub mod PlanBack
pub mod SplitBack
pub mod TextBack
pub mod TextOfParts
