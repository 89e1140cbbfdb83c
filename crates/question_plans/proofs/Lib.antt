mod OpensMade
mod RequestsAlone
mod Copies
mod PlanKept
