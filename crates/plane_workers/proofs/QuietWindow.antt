-- What a link is asked in a window that begins with quiet rounds: a tick in each of them, and then what it is asked in the rest.
use Rattle.std.proofs.Common.{◌≡◌, ℕ, zero, suc, ◌+◌, ◌-◌, ◌≤◌, false, List, [], ◌∷◌, ◌++◌, map, refl, sym, ap, ◌∙◌, inl, inr, arith}
use Rattle.std.proofs.lemmas.Bool.{cases_lt, ne_eqb, lt-ltb, le-ltb}
use Rattle.link_steps.specs.Lists.{Each}
use Rattle.link_steps.specs.declared.asks.Ask.TheVariants.{Tick}
use Rattle.tick_plane.specs.Coming.{IsDueFrom}
use Rattle.tick_plane.specs.Planes.{Plane}
use Rattle.tick_plane.specs.Windows.{is_bound, arrive_of, arrivals_at, rounds_at, window_at}
use Rattle.tick_plane.specs.declared.flight.Flight.{Flight}
use Rattle.link_steps.proofs.SearchAndFilter.{Each-if, filter-none}
use Rattle.tick_plane.specs.AskedRuns.{ticks}
use Rattle.plane_workers.proofs.QuietReplies.{no-ticks, ticks-first}

abbrev starting : ℕ → List Flight → Plane
starting round flights = record { round = round; ticked = 0; flights = flights }

unbound : (k round : ℕ) (flights : List Flight) → Each (IsDueFrom (suc round)) flights → Each (λ f. is_bound k round f ≡ false) flights
unbound k round [] later = tt
unbound k round (f ∷ fs) later = ((let from = later.0 in rw (ne_eqb f.round round (λ same. absurd (omega (arith, same, from)))) refl), unbound k round fs later.1)

none-arrive : (k round : ℕ) (flights : List Flight) → Each (IsDueFrom (suc round)) flights → arrivals_at k round flights ≡ []
none-arrive k round flights later = ap (map arrive_of) (filter-none (is_bound k round) flights (unbound k round flights later))

-- from the start of a round on
from-start : (k until round : ℕ) (flights : List Flight) → window_at k until (starting round flights) ≡ rounds_at k round (until - round) flights
unfolding rounds_at
from-start k until round flights =
    elim (cases_lt round until) [
      | inl more ↦
          (let count : until - round ≡ suc (until - suc round) = omega (arith, more) in
          rw (lt-ltb round until more, le-ltb k 0 (omega arith)) (ap (λ c. rounds_at k round c flights) (sym count)))
      | inr last ↦ (let count : until - round ≡ 0 = omega (arith, last) in rw (le-ltb round until last) (ap (λ c. rounds_at k round c flights) (sym count)))
    ]

round-first : (k round count : ℕ) (flights : List Flight) → Each (IsDueFrom (suc round)) flights → rounds_at k round (suc count) flights ≡ Tick ∷ rounds_at k (suc round) count flights
unfolding rounds_at
round-first k round count flights later = ap (λ asks. asks ++ Tick ∷ rounds_at k (suc round) count flights) (none-arrive k round flights later)

rounds-quiet : (k round n count : ℕ) (flights : List Flight) → Each (IsDueFrom (round + n)) flights → rounds_at k round (n + count) flights ≡ ticks n ++ rounds_at k (round + n) count flights
rounds-quiet k round zero count flights later =
    (let all : 0 + count ≡ count = omega arith in
    let same : round ≡ round + 0 = omega arith in
    ap (λ c. rounds_at k round c flights) all ∙ ap (λ r. rounds_at k r count flights) same ∙ sym (no-ticks (rounds_at k (round + 0) count flights)))
rounds-quiet k round (suc n) count flights later =
    let all : suc n + count ≡ suc (n + count) = omega arith in
    let on : suc round + n ≡ round + suc n = omega arith in
    ap (λ c. rounds_at k round c flights) all
    ∙ round-first k round (n + count) flights (Each-if (IsDueFrom (round + suc n)) (IsDueFrom (suc round)) flights (λ f from. omega (arith, from)) later)
    ∙ ap (λ asks. Tick ∷ asks) (rounds-quiet k (suc round) n count flights (Each-if (IsDueFrom (round + suc n)) (IsDueFrom (suc round + n)) flights (λ f from. omega (arith, from)) later))
    ∙ ap (λ r. Tick ∷ (ticks n ++ rounds_at k r count flights)) on
    ∙ sym (ticks-first n (rounds_at k (round + suc n) count flights))

pub window-quiet : (k until round n : ℕ) (flights : List Flight) → round + n ≤ until → Each (IsDueFrom (round + n)) flights → window_at k until (starting round flights) ≡ ticks n ++ window_at k until (starting (round + n) flights)
window-quiet k until round n flights within later =
    let count : until - round ≡ n + (until - (round + n)) = omega (arith, within) in
    from-start k until round flights ∙ ap (λ c. rounds_at k round c flights) count ∙ rounds-quiet k round n (until - (round + n)) flights later
    ∙ ap (λ asks. ticks n ++ asks) (sym (from-start k until (round + n) flights))
