-- What a link is asked in a window: packets that were on their way, and ticks, one a round.
use Rattle.std.proofs.Common.{◌≡◌, ℕ, zero, suc, ◌-◌, ◌≤◌, List, [], ◌∷◌, ◌++◌, map, filter, refl, inl, inr, arith}
use Rattle.std.proofs.lemmas.Bool.{cases_Bool, cases_lt, lt-ltb, le-ltb}
use Rattle.std.specs.Prelude.{nat_lt}
use Rattle.link_steps.specs.Legal.{AskFits, PacketFits}
use Rattle.link_steps.specs.Lists.{Each}
use Rattle.link_steps.specs.declared.asks.Ask.TheVariants.{Tick}
use Rattle.link_steps.specs.declared.shape.LinkShape.{LinkShape}
use Rattle.link_steps.proofs.SearchAndFilter.{Each-append, Each-filter, Each-map}
use Rattle.tick_plane.specs.Planes.{Plane}
use Rattle.tick_plane.specs.Windows.{is_bound, arrive_of, arrivals_at, rounds_at, tick_left, window_at}
use Rattle.tick_plane.specs.declared.flight.Flight.{Flight}
use Rattle.plane_workers.specs.Answered.{ticks_in}
use Rattle.plane_workers.proofs.AsksInTurn.{ticks-append}

abbrev FlightFits : Flight → Type 0
FlightFits flight = PacketFits flight.packet

-- ---- each meets the conditions on an ask

module _ (shape : LinkShape) (n : ℕ) where
  arrivals-fit : (round : ℕ) (flights : List Flight) → Each FlightFits flights → Each (AskFits shape) (arrivals_at n round flights)
  arrivals-fit round flights fit = Each-map (AskFits shape) arrive_of (filter (is_bound n round) flights) (Each-filter FlightFits (is_bound n round) flights fit)

  rounds-fit : (round count : ℕ) (flights : List Flight) → Each FlightFits flights → Each (AskFits shape) (rounds_at n round count flights)
  unfolding rounds_at
  rounds-fit round zero flights fit = tt
  rounds-fit round (suc count) flights fit = Each-append (AskFits shape) (arrivals_at n round flights) _ (arrivals-fit round flights fit) (tt, rounds-fit (suc round) count flights fit)

  tick-fits : (plane : Plane) → Each (AskFits shape) (tick_left n plane)
  tick-fits plane =
      elim (cases_Bool (nat_lt n plane.ticked)) [
        | inl made ↦ rw made tt
        | inr left ↦ rw left (tt, tt)
      ]

  pub window-fits : (until : ℕ) (plane : Plane) → Each FlightFits plane.flights → Each (AskFits shape) (window_at n until plane)
  window-fits until plane fit =
      elim (cases_Bool (nat_lt plane.round until)) [
        | inl early ↦
            rw early
            (Each-append (AskFits shape) (arrivals_at n plane.round plane.flights) _ (arrivals-fit plane.round plane.flights fit)
            (Each-append (AskFits shape) (tick_left n plane) _ (tick-fits plane) (rounds-fit (suc plane.round) (until - suc plane.round) plane.flights fit)))
        | inr over ↦ rw over tt
      ]

-- ---- ticks

module _ (n : ℕ) where
  chosen-ticks : (flights : List Flight) → ticks_in (map arrive_of flights) ≡ 0
  unfolding ticks_in
  chosen-ticks [] = refl
  chosen-ticks (f ∷ fs) = (let rest = chosen-ticks fs in omega (arith, rest))

  rounds-ticks : (round count : ℕ) (flights : List Flight) → ticks_in (rounds_at n round count flights) ≡ count
  unfolding rounds_at ticks_in
  rounds-ticks round zero flights = refl
  rounds-ticks round (suc count) flights =
      let both = ticks-append (arrivals_at n round flights) (Tick ∷ rounds_at n (suc round) count flights) in
      let none = chosen-ticks (filter (is_bound n round) flights) in
      let rest = rounds-ticks (suc round) count flights in
      omega (arith, both, none, rest)

  left-ticks : (plane : Plane) → ticks_in (tick_left n plane) ≤ 1
  unfolding ticks_in
  left-ticks plane =
      elim (cases_Bool (nat_lt n plane.ticked)) [
        | inl made ↦ rw made (omega arith)
        | inr left ↦ rw left (omega arith)
      ]

  -- one a round at most
  pub window-ticks : (until : ℕ) (plane : Plane) → ticks_in (window_at n until plane) ≤ until - plane.round
  unfolding ticks_in
  window-ticks until plane =
      elim (cases_lt plane.round until) [
        | inl early ↦
            rw (lt-ltb plane.round until early)
            (let rest = ticks-append (tick_left n plane) (rounds_at n (suc plane.round) (until - suc plane.round) plane.flights) in
            let both = ticks-append (arrivals_at n plane.round plane.flights) (tick_left n plane ++ rounds_at n (suc plane.round) (until - suc plane.round) plane.flights) in
            let none = chosen-ticks (filter (is_bound n plane.round) plane.flights) in
            let rounds = rounds-ticks (suc plane.round) (until - suc plane.round) plane.flights in
            let one = left-ticks plane in
            omega (arith, rest, both, none, rounds, one, early))
        | inr over ↦ rw (le-ltb plane.round until over) (omega arith)
      ]
