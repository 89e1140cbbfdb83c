-- A line that passes, what it may add, and what is kept as it is added.
pub mod RequestUses
pub mod DraftBecomesPlan
pub mod KeptBesideDraft
pub mod PassingLines
pub mod OwnOpenings
pub mod PassedLinesAdd
pub mod ReadingAhead
pub mod ReadByForms
pub mod ReadBefore
pub mod ReadNames
pub mod ReadRoutes
