-- In quiet rounds the plane asks for ticks alone, and where nothing leaves with them it comes to stand that many rounds later.
use Rattle.std.proofs.Common.{◌≡◌, ℕ, zero, suc, ◌+◌, ◌*◌, ◌<◌, ◌≤◌, List, [], ◌∷◌, ◌++◌, length, append-nil, Option, Some, None, refl, sym, ap, ◌∙◌, subst, arith}
use Rattle.std.proofs.lemmas.Bool.{eq-eqb, ne_eqb, lt-ltb}
use Rattle.std.specs.Prelude.{find, nat_eq, if◌then◌else◌}
use Rattle.net_units.specs.Numbers.{link_at}
use Rattle.net_units.specs.declared.numbers.LinkNo.{LinkNo}
use Rattle.link_steps.specs.declared.asks.Ask.{Ask}
use Rattle.link_steps.specs.declared.asks.Ask.TheVariants.{Tick}
use Rattle.link_steps.specs.declared.replies.Reply.{Reply}
use Rattle.link_steps.specs.Lists.{Each}
use Rattle.tick_plane.specs.declared.flight.Flight.{Flight}
use Rattle.tick_plane.specs.QuietRounds.{rounds_later, IsStill, ticks_in, QuietRoundsAreTicksAlone}
use Rattle.tick_plane.specs.Carried.{Way, IsFrom, flights_at}
use Rattle.tick_plane.specs.Coming.{IsDueFrom}
use Rattle.tick_plane.specs.Planes.{Plane, is_due, next_due, tick_made, plane_with, plane_after, plane_ask}
use Rattle.tick_plane.specs.Rounds.{ticks_from, AskedInTurn}

-- ---- flights by their entries

pub from-entries : (round : ℕ) (entries : List Way) → Each (IsFrom round) entries → Each (IsDueFrom round) (flights_at entries)
from-entries round [] each = tt
from-entries round (entry ∷ entries) each = (each.0, from-entries round entries each.1)

pub of-flights : (round : ℕ) (entries : List Way) → Each (IsDueFrom round) (flights_at entries) → Each (IsFrom round) entries
of-flights round [] each = tt
of-flights round (entry ∷ entries) each = (each.0, of-flights round entries each.1)

-- none is due in a round before they are
pub none-yet : (round until : ℕ) (flights : List Flight) → Each (IsDueFrom until) flights → round < until → find (is_due round) flights ≡ None
none-yet round until [] each early = refl
none-yet round until (flight ∷ flights) each early =
    rw (ne_eqb flight.round round (λ same. let from = each.0 in absurd (omega (arith, same, from, early)))) (none-yet round until flights each.1 early)

-- ---- a tick with which none leaves

-- where it leaves the plane, with the same flights
abbrev pub still_tick : ℕ → Plane → Plane
still_tick links plane = if nat_eq (suc plane.ticked) links then record { round = suc plane.round; ticked = 0; flights = plane.flights } else record { round = plane.round; ticked = suc plane.ticked; flights = plane.flights }

with-none : (links : ℕ) (plane : Plane) (found : Option Flight) (reply : Reply) → found ≡ None → IsStill reply → plane_with links plane found reply ≡ still_tick links plane
with-none links plane (Some flight) reply none still = cc
with-none links plane None reply none still =
    ap (tick_made links plane) still
    ∙ ap (λ fs. if nat_eq (suc plane.ticked) links then record { round = suc plane.round; ticked = 0; flights = fs } else record { round = plane.round; ticked = suc plane.ticked; flights = fs }) (append-nil plane.flights)

pub after-still : (links : ℕ) (plane : Plane) (reply : Reply) → next_due plane ≡ None → IsStill reply → plane_after links reply plane ≡ still_tick links plane
after-still links plane reply none still = with-none links plane (next_due plane) reply none still

pub asks-tick : (rounds : ℕ) (plane : Plane) → plane.round < rounds → next_due plane ≡ None → plane_ask rounds plane ≡ Some (link_at plane.ticked, Tick)
asks-tick rounds plane early none = rw (lt-ltb plane.round rounds early) (rw none refl)

-- ---- rounds of them

-- the ticks that are left in a round, before whatever is asked in the next one
ticks-left : (links rounds count : ℕ) (plane : Plane) (more : List (LinkNo × Ask)) (after : Plane) (left : ℕ) (replies : List Reply) → plane.ticked + suc count ≡ links → plane.round < rounds → next_due plane ≡ None
    → ((rest : List Reply) → length rest ≡ left → Each IsStill rest → AskedInTurn links rounds (record { round = suc plane.round; ticked = 0; flights = plane.flights }) more rest after)
    → length replies ≡ suc count + left → Each IsStill replies → AskedInTurn links rounds plane (ticks_from plane.ticked (suc count) ++ more) replies after
unfolding ticks_from
ticks-left links rounds count plane more after left [] all early none next long still = absurd (omega (arith, long))
ticks-left links rounds zero plane more after left (reply ∷ replies) all early none next long still = (
  asks-tick rounds plane early none,
  subst (λ p. AskedInTurn links rounds p more replies after)
      (sym (after-still links plane reply none still.0 ∙ rw (eq-eqb (suc plane.ticked) links (omega (arith, all))) refl))
      (next replies (omega (arith, long)) still.1),
)
ticks-left links rounds (suc count) plane more after left (reply ∷ replies) all early none next long still = (
  asks-tick rounds plane early none,
  subst (λ p. AskedInTurn links rounds p (ticks_from (suc plane.ticked) (suc count) ++ more) replies after)
      (sym (after-still links plane reply none still.0 ∙ rw (ne_eqb (suc plane.ticked) links (λ same. absurd (omega (arith, all, same)))) refl))
      (ticks-left links rounds count (record { round = plane.round; ticked = suc plane.ticked; flights = plane.flights }) more after left replies (omega (arith, all)) early none next (omega (arith, long)) still.1),
)

abbrev at_start : ℕ → List Flight → Plane
at_start round flights = record { round = round; ticked = 0; flights = flights }

rounds-quiet : (links rounds n round until : ℕ) (flights : List Flight) (replies : List Reply) → 1 ≤ links → round + n ≡ until → until ≤ rounds → Each (IsDueFrom until) flights → length replies ≡ n * links → Each IsStill replies
    → AskedInTurn links rounds (at_start round flights) (ticks_in n links) replies (at_start until flights)
unfolding ticks_in
rounds-quiet links rounds zero round until flights [] some at within none long still = ap (λ r. at_start r flights) (omega (arith, at))
rounds-quiet links rounds zero round until flights (reply ∷ replies) some at within none long still = absurd (omega (arith, long))
rounds-quiet zero rounds (suc n) round until flights replies some at within none long still = absurd (omega (arith, some))
rounds-quiet (suc links) rounds (suc n) round until flights replies some at within none long still =
    ticks-left (suc links) rounds links (at_start round flights) (ticks_in n (suc links)) (at_start until flights) (n * suc links) replies (omega arith) (omega (arith, at, within)) (none-yet round until flights none (omega (arith, at)))
    (λ rest left each. rounds-quiet (suc links) rounds n (suc round) until flights rest some (omega (arith, at)) within none left each)
    (omega (arith, long)) still

pub quiet-rounds : QuietRoundsAreTicksAlone
quiet-rounds links rounds n plane replies some quiet long still =
    let start : at_start plane.round plane.flights ≡ plane = ap (λ t. record { round = plane.round; ticked = t; flights = plane.flights }) (sym quiet.starts) in
    let end : at_start (plane.round + n) plane.flights ≡ rounds_later n plane = ap (λ t. record { round = plane.round + n; ticked = t; flights = plane.flights }) (sym quiet.starts) in
    subst (λ p. AskedInTurn links rounds p (ticks_in n links) replies (rounds_later n plane)) start
    (subst (AskedInTurn links rounds (at_start plane.round plane.flights) (ticks_in n links) replies) end
    (rounds-quiet links rounds n plane.round (plane.round + n) plane.flights replies some refl quiet.left quiet.none long still))
