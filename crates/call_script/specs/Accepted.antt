-- The levels with which requests of a plan were accepted: one entry a request. Where the request was accepted, its entry has a level
-- of the link for each hop of its route, and keeps the delay and the jitter that were asked for.
use Rattle.std.specs.Prelude.{◌≡◌, ℕ, Option, Some, List, length}
use Rattle.std.specs.List.{slice_get}
use Rattle.net_units.specs.Allotted.{levels_of}
use Rattle.net_units.specs.declared.levels.Levels.{Levels}
use Rattle.hop_reservation.specs.Offers.{delay_over}
use Rattle.setup_protocol.specs.Laws.{KeepsRequest}
use Rattle.call_script.specs.Parts.{PlanParts}
use Rattle.call_script.specs.declared.entries.RequestEntry.{RequestEntry}

pub record AreAccepted (plan : PlanParts) (levels : List (Option Levels)) : Type 0 where
  pub count : length levels ≡ length plan.requests
  pub keep : (c : ℕ) (entry : RequestEntry) (given : Levels) → slice_get plan.requests c ≡ Some entry → slice_get levels c ≡ Some (Some given) → KeepsRequest entry.request (levels_of given) (delay_over entry.request.route (levels_of given))
