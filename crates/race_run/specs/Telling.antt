-- How far the steps of a race are told, in order of stamp. Told are the entries of all journals with stamps below some stamp. In each
-- journal these come first, since its stamps rise, so their number says which of its entries comes next.
use Rattle.std.specs.Prelude.{◌≡◌, ℕ, suc, nat_lt, Bool, if◌then◌else◌, List, [], ◌∷◌, filter, map, reverse}
use Rattle.net_units.specs.declared.numbers.LinkNo.{LinkNo}
use Rattle.link_ledger.specs.declared.entries.Entry.{Entry}
use Rattle.link_ledger.specs.declared.entries.Journal.{Journal}
use Rattle.call_script.specs.Parts.{PlanParts}
use Rattle.call_script.specs.declared.schedule.Do.{Do}
use Rattle.run_record.specs.declared.done.Done.{Done}
use Rattle.run_engine.specs.runs.Weave.{Stamped, done_of, woven_of}
use Rattle.race_run.specs.Order.{journal_with}
use Rattle.race_run.specs.Turns.{AreMaximalRuns, actors_of}
use Rattle.race_run.specs.Whole.{stamped_in, stamped_on}

-- an entry of the journal of a link as an entry of a run
abbrev pub done_on : LinkNo → Entry → Done
done_on link e = (stamped_on link e).done

-- those with a stamp below this one
abbrev pub is_below : ℕ → Stamped → Bool
is_below stamp x = nat_lt x.stamp stamp

abbrev pub below : ℕ → List Stamped → List Stamped
below stamp xs = filter (is_below stamp) xs

-- the entries of all journals with stamps below this one, newest first
abbrev pub weave_below : ℕ → List Journal → List Done
weave_below stamp journals = map done_of (below stamp (woven_of (map stamped_in journals)))

-- how many of the entries have a stamp below this one
unfoldable pub count_below : ℕ → List Entry → ℕ
count_below stamp [] = 0
count_below stamp (e ∷ entries) = if nat_lt e.stamp stamp then suc (count_below stamp entries) else count_below stamp entries

-- how many of each journal
abbrev pub counts_below : ℕ → List Journal → List ℕ
counts_below stamp journals = map (λ (journal : Journal). count_below stamp journal.entries) journals

-- the entries below this stamp are told: so many of each journal, with the maximal runs of their actors, and the watcher has seen them
pub record HasTold {W : Type 0} (saw : W → PlanParts → List Done → Type 0) (parts : PlanParts) (journals : List Journal) (told : List ℕ) (items : List Do) (watch : W) (stamp : ℕ) : Type 0 where
  pub counts : told ≡ counts_below stamp journals
  pub runs : AreMaximalRuns (actors_of (reverse (weave_below stamp journals))) items
  pub seen : saw watch parts (weave_below stamp journals)

-- and the journal at this place has the entry of this stamp
pub record TellsNext {W : Type 0} (saw : W → PlanParts → List Done → Type 0) (parts : PlanParts) (journals : List Journal) (told : List ℕ) (items : List Do) (watch : W) (place stamp : ℕ) : Type 0 where
  pub so_far : HasTold saw parts journals told items watch stamp
  pub number : journal_with stamp 0 255 journals ≡ place
