-- All delays with which a request would be accepted at a point of a schedule are told as ranges, as those of a request among a plan's requests alone
-- (`answer_tables`): it is accepted with the ends of each, and not with the delays beside them.
use Rattle.std.specs.Prelude.{ℕ, Bool, List}
use Rattle.call_script.specs.Parts.{PlanParts}
use Rattle.call_script.specs.declared.schedule.Do.{Do}
use Rattle.answer_tables.specs.Ranges.{AreRangesOf, hops_of}
use Rattle.answer_tables.specs.declared.ranges.Range.{Range}
use Rattle.setup_points.specs.Least.{Gives}
use Rattle.setup_points.specs.declared.least.Sought.TheVariants.{Delay}

-- whether it is accepted with a delay after so many steps
abbrev pub gives_at : PlanParts → List Do → ℕ → ℕ → ℕ → Bool → Type 0
gives_at parts items start number delay accepted = Gives parts items (record { start = start; number = number; sought = Delay }) delay accepted

abbrev pub AreRangesAt : PlanParts → List Do → ℕ → ℕ → List Range → Type 0
AreRangesAt parts items start number ranges = AreRangesOf (gives_at parts items start number) (hops_of parts number) ranges
