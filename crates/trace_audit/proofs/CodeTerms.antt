-- The terms of a row, as they are looked up.
use Rattle.std.proofs.Common.{◌≡◌, ℕ, List, Option, Some, None, refl, inl, inr}
use Rattle.std.proofs.lemmas.Bool.{cases_Bool}
use Rattle.std.specs.List.{slice_get}
use Rattle.std.specs.Prelude.{nat_eq}
use Rattle.net_units.specs.Allotted.{levels_of}
use Rattle.net_units.specs.Numbers.{channel_number}
use Rattle.net_units.specs.declared.levels.Levels.{Levels}
use Rattle.setup_protocol.specs.State.{HaveLevels}
use Rattle.call_script.specs.Parts.{PlanParts}
use Rattle.call_script.specs.declared.entries.RequestEntry.{RequestEntry}
use Rattle.run_record.specs.declared.rows.HopRow.{HopRow}
use Rattle.call_script.specs.Accepted.{AreAccepted}
use Rattle.trace_audit.specs.Terms.{levels_given, terms_at, terms_in_route, terms_of_row}
use Rattle.trace_audit.proofs.RowTerms.{given-at}

pub none-requested : (plan : PlanParts) (levels : List (Option Levels)) (row : HopRow) → slice_get plan.requests (channel_number row.chan) ≡ None → None ≡ terms_of_row plan levels row
unfolding terms_of_row terms_at
none-requested plan levels row none =
    elim (cases_Bool (nat_eq row.hop 0)) [ inl first ↦ rw first refl | inr other ↦ rw (other, none) refl ]

pub none-given : (plan : PlanParts) (levels : List (Option Levels)) (row : HopRow) (entry : RequestEntry) → slice_get plan.requests (channel_number row.chan) ≡ Some entry → levels_given levels (channel_number row.chan) ≡ None → None ≡ terms_of_row plan levels row
unfolding terms_of_row terms_at
none-given plan levels row entry requested none =
    elim (cases_Bool (nat_eq row.hop 0)) [ inl first ↦ rw first refl | inr other ↦ rw (other, requested, none) refl ]

pub given-terms : (plan : PlanParts) (levels : List (Option Levels)) (row : HopRow) (entry : RequestEntry) (given : Levels) → slice_get plan.requests (channel_number row.chan) ≡ Some entry → levels_given levels (channel_number row.chan) ≡ Some given → terms_in_route plan entry.request (levels_of given) row ≡ terms_of_row plan levels row
unfolding terms_of_row terms_at
given-terms plan levels row entry given requested accepted =
    elim (cases_Bool (nat_eq row.hop 0)) [ inl first ↦ rw first refl | inr other ↦ rw (other, requested, accepted) refl ]

pub given-levels : (plan : PlanParts) (levels : List (Option Levels)) (c : ℕ) (entry : RequestEntry) (given : Levels) → AreAccepted plan levels → slice_get plan.requests c ≡ Some entry → levels_given levels c ≡ Some given → HaveLevels entry.request.route (levels_of given)
given-levels plan levels c entry given are requested accepted = (are.keep c entry given requested (given-at levels c given accepted)).have_levels
