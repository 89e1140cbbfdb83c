-- A row with no packet planned for a tick rests in it, and stays as it is.
use Rattle.std.proofs.Common.{◌≡◌, ℕ, zero, suc, ◌+◌, ◌<◌, ◌≤◌, List, refl, ap, arith}
use Rattle.link_server.proofs.Words.{Each, Arrival, Rests}
use Rattle.link_steps.specs.Account.{AccountRow, account_step, past_tick}
use Rattle.link_steps.specs.Rows.{planned_from}
use Rattle.link_steps.proofs.QuietTicks.{none-planned, all-left}
use Rattle.link_server.specs.Planned.{IsPlannedFrom}
use Rattle.link_server.specs.Plans.{IsQuiet}

-- and the row rests
pub quiet-step : (bounds : List ℕ) (here : List Arrival) (until t : ℕ) (row : AccountRow) → IsQuiet until row → t < until → account_step bounds here t row ≡ Rests
unfolding account_step
quiet-step bounds here until t row quiet before = rw (none-planned until t row.left quiet before) refl

pub quiet-past : (bounds : List ℕ) (until t : ℕ) (row : AccountRow) → IsQuiet until row → t < until → past_tick t row ≡ row
quiet-past bounds until t row quiet before = ap (λ left. record row { left = left }) (all-left until t row.left quiet before)

-- packets that are planned from a tick on are for none before it
pub planned-quiet : (until u gap size count : ℕ) → until ≤ u → Each (IsPlannedFrom until) (planned_from u gap size count)
unfolding planned_from
planned-quiet until u gap size zero from = tt
planned-quiet until u gap size (suc count) from = (from, planned-quiet until (u + gap) gap size count (omega (arith, from)))
