-- The flights that are due from a round on. Where what is due before it is taken out, they are what is left.
use Rattle.std.proofs.Common.{◌≡◌, ℕ, suc, ◌<◌, ◌≤◌, false, true, not, List, Option, Some, None, is_some, filter, refl, ap, arith}
use Rattle.std.proofs.lemmas.Bool.{le-ltb}
use Rattle.std.specs.List.{All}
use Rattle.std.specs.Prelude.{IsNone, IfNone}
use Rattle.link_steps.specs.Lists.{Each}
use Rattle.link_steps.proofs.SearchAndFilter.{Each-if, filter-all}
use Rattle.tick_plane.specs.declared.flight.Flight.{Flight}
use Rattle.tick_plane.specs.declared.flight.OnWay.{OnWay}
use Rattle.tick_plane.specs.Carried.{Way, IsFrom, flights_at}
use Rattle.tick_plane.specs.Coming.{IsDueFrom, is_from}
use Rattle.tick_plane.proofs.FirstDueFlight.{each-all}
use Rattle.tick_plane.proofs.QuietRounds.{from-entries}

-- where all are due from a round on, all of them are
pub all-from : (until : ℕ) (flights : List Flight) → Each (IsDueFrom until) flights → filter (is_from until) flights ≡ flights
all-from until flights ahead =
    filter-all (is_from until) flights (Each-if (IsDueFrom until) (λ f. is_from until f ≡ true) flights (λ f due. ap not (le-ltb f.round until due)) ahead)

pub entries-from : (until : ℕ) (entries : List Way) → Each (IsFrom until) entries → filter (is_from until) (flights_at entries) ≡ flights_at entries
entries-from until entries ahead = all-from until (flights_at entries) (from-entries until entries ahead)

-- where the calendar tells none at a tick, it is as it was, and all are due after that tick
module _ (last : ℕ) (now left : List Way) where
  pub none-gone : (taken : Option OnWay) → is_some taken ≡ false → IfNone taken (left ≡ now) → left ≡ now
  none-gone None none same = same
  none-gone (Some way) none same = absurd (cc (none))

  pub none-early : (until : ℕ) (taken : Option OnWay) → until ≤ suc last → is_some taken ≡ false → (IsNone taken → All (λ entry. last < entry.0) now) → Each (IsFrom until) now
  none-early until None next none later = each-all (IsFrom until) now (λ k d lt. let after = later refl k d lt in omega (arith, next, after))
  none-early until (Some way) next none later = absurd (cc (none))
