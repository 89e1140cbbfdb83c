-- The rows that an audit's trail stands for: they all pass, and the trail keeps the last of them and, for each hop of its channel,
-- what the rows there leave.
use Rattle.std.specs.Prelude.{◌≡◌, ℕ, suc, Option, Some, None, List, [], ◌∷◌, length}
use Rattle.std.specs.List.{slice_get}
use Rattle.net_units.specs.Numbers.{channel_number}
use Rattle.net_units.specs.declared.levels.Levels.{Levels}
use Rattle.regulator_core.specs.Kept.{RegulatorStandsFor}
use Rattle.call_script.specs.Parts.{PlanParts}
use Rattle.run_record.specs.declared.rows.HopRow.{HopRow}
use Rattle.trace_audit.specs.Above.{rows_at, ticks_above}
use Rattle.run_record.specs.SmallRows.{AreSmall}
use Rattle.trace_audit.specs.Checks.{AllPass}
use Rattle.trace_audit.specs.Terms.{terms_at}
use Rattle.trace_audit.specs.declared.terms.Terms.{Terms}
use Rattle.trace_audit.specs.declared.hop_trail.HopTrail.{HopTrail}
use Rattle.trace_audit.specs.declared.trail.Trail.{Trail}

abbrev pub head_of : List HopRow → Option HopRow
head_of [] = None
head_of (row ∷ rows) = Some row

-- the tick at which the newest of these arrived, or 0
abbrev pub newest_arrival : List HopRow → ℕ
newest_arrival [] = 0
newest_arrival (row ∷ rows) = row.at

-- what is kept of a hop of a channel
pub record IsKept (terms : Terms) (c i : ℕ) (hops : List HopTrail) (rows : List HopRow) : Type 0 where
  pub hop : HopTrail
  pub found : slice_get hops i ≡ Some hop
  pub number : hop.number ≡ length (rows_at c (suc i) rows)
  pub at : hop.at ≡ newest_arrival (rows_at c (suc i) rows)
  pub contract : hop.regulator.contract ≡ terms.contract
  pub kind : hop.regulator.kind ≡ terms.kind
  pub stands : RegulatorStandsFor hop.regulator (ticks_above c (suc i) rows)

abbrev pub HopsStand : PlanParts → List (Option Levels) → ℕ → List HopTrail → List HopRow → Type 0
HopsStand plan levels c hops rows = (i : ℕ) (terms : Terms) → terms_at plan levels c i ≡ Some terms → IsKept terms c i hops rows

pub record Stands (plan : PlanParts) (levels : List (Option Levels)) (trail : Trail) (rows : List HopRow) : Type 0 where
  pub pass : AllPass plan levels rows
  pub small : AreSmall rows
  pub last : trail.last ≡ head_of rows
  pub hops : (row : HopRow) → head_of rows ≡ Some row → HopsStand plan levels (channel_number row.chan) trail.hops.items rows
