-- What was read of an audit's input, where no line was refused: from `report` on the scenario is complete, and there is one entry a
-- request; levels that were stated keep what their request asks for; and the numbers of the rows are small.
use Rattle.std.specs.Prelude.{◌≡◌, ℕ, true, Option, Some, List, [], length, map, option_map}
use Rattle.std.specs.List.{slice_get}
use Rattle.net_units.specs.Allotted.{levels_of}
use Rattle.net_units.specs.declared.levels.Levels.{Levels}
use Rattle.hop_reservation.specs.Offers.{delay_over}
use Rattle.setup_protocol.specs.Laws.{KeepsRequest}
use Rattle.call_script.specs.declared.entries.RequestEntry.{RequestEntry}
use Rattle.run_record.specs.SmallRows.{AreSmall}
use Rattle.scenario_reader.specs.AuditLines.{Acceptance}
use Rattle.scenario_reader.specs.AuditReading.{AuditSaid}
use Rattle.scenario_reader.specs.Drafts.{is_complete}
use Rattle.scenario_reader.specs.declared.audit.accepting.Acceptance.{Acceptance as Told}
use Rattle.scenario_reader.specs.declared.audit.place.Section.{Section}
use Rattle.scenario_reader.specs.declared.audit.place.Section.TheVariants as place

-- the levels that were told, as lists of their numbers
abbrev pub levels_given : List (Option Levels) → List (Option (List ℕ))
levels_given levels = map (option_map levels_of) levels

-- what is told of a request's levels, as a list of their numbers
abbrev pub told_of : Told → Acceptance
told_of told = record { request = told.request; levels = levels_of told.levels }

-- what is told of a request keeps what it asks for
abbrev pub KeepsTold : List RequestEntry → Acceptance → Type 0
KeepsTold requests told = (entry : RequestEntry) → slice_get requests told.request ≡ Some entry → KeepsRequest entry.request told.levels (delay_over entry.request.route told.levels)

-- which requests' levels there are, and how much of the scenario, by which lines are read
abbrev pub IsPlaced : Section → AuditSaid → Type 0
IsPlaced place.Scenario read = read.levels ≡ []
IsPlaced place.Report read = (is_complete read.said ≡ true) × (length read.levels ≡ length read.said.requests)
IsPlaced place.Table read = (is_complete read.said ≡ true) × (length read.levels ≡ length read.said.requests)

pub record IsAuditDraft (read : AuditSaid) : Type 0 where
  pub placed : IsPlaced read.place read
  pub keep : (c : ℕ) (entry : RequestEntry) (levels : List ℕ) → slice_get read.said.requests c ≡ Some entry
      → slice_get read.levels c ≡ Some (Some levels)
      → KeepsRequest entry.request levels (delay_over entry.request.route levels)
  pub small : AreSmall read.rows
