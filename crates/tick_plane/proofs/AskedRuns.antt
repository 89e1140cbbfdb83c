-- What a link is asked in a window, with its ticks counted: between the arrivals stand the ticks of the rounds in which none comes.
use Rattle.std.proofs.Common.{◌≡◌, ℕ, zero, suc, ◌+◌, ◌-◌, ◌<◌, ◌≤◌, List, [], ◌∷◌, ◌++◌, refl, sym, ap, ◌∙◌, subst, arith}
use Rattle.std.proofs.lemmas.Bool.{le-ltb, lt-ltb, ne_eqb}
use Rattle.std.proofs.lemmas.List.{append_assoc, append-nil}
use Rattle.link_steps.specs.Lists.{Each}
use Rattle.link_steps.proofs.SearchAndFilter.{Each-if}
use Rattle.link_steps.specs.declared.asks.Ask.{Ask}
use Rattle.link_steps.specs.declared.asks.Ask.TheVariants.{Arrive, Tick}
use Rattle.tick_plane.specs.AskedRuns.{asks_in, ticks}
use Rattle.tick_plane.specs.Coming.{AreComing, IsDueFrom, Rise, arrivals_in, rounds_in}
use Rattle.tick_plane.specs.Planes.{Plane}
use Rattle.tick_plane.specs.Windows.{arrivals_at, rounds_at, tick_left, window_at}
use Rattle.tick_plane.specs.declared.asked.Asked.{Asked}
use Rattle.tick_plane.specs.declared.asked.Asked.TheVariants.{Arrives, Ticks}
use Rattle.tick_plane.specs.declared.flight.Flight.{Flight}
use Rattle.link_steps.specs.declared.asks.Packet.{Packet}
use Rattle.tick_plane.proofs.ComingInOrder.{arrives-next, none-arrives, rounds-as}

-- ---- one thing more

module _ (more : List Asked) where
  pub asks-append : (asked : List Asked) → asks_in (asked ++ more) ≡ asks_in asked ++ asks_in more
  unfolding asks_in
  asks-append [] = refl
  asks-append (Arrives packet ∷ asked) = ap (λ asks. Arrive packet ∷ asks) (asks-append asked)
  asks-append (Ticks count ∷ asked) = ap (λ asks. ticks count ++ asks) (asks-append asked) ∙ sym (append_assoc (ticks count) (asks_in asked) (asks_in more))

pub ticks-more : (asked : List Asked) (count : ℕ) → asks_in (asked ++ Ticks count ∷ []) ≡ asks_in asked ++ ticks count
unfolding asks_in
ticks-more asked count = asks-append (Ticks count ∷ []) asked ∙ ap (λ asks. asks_in asked ++ asks) (append-nil (ticks count))

pub arrival-more : (asked : List Asked) (packet : Packet) → asks_in (asked ++ Arrives packet ∷ []) ≡ asks_in asked ++ Arrive packet ∷ []
unfolding asks_in
arrival-more asked packet = asks-append (Arrives packet ∷ []) asked

pub no-ticks : (asks : List Ask) (count : ℕ) → count ≡ 0 → asks ≡ asks ++ ticks count
unfolding ticks
no-ticks asks count none = sym (ap (λ n. asks ++ ticks n) none ∙ append-nil asks)

-- ---- the rounds

-- those in which none comes are ticks alone
pub rounds-quiet : (quiet round count all : ℕ) (coming : List Flight) → all ≡ quiet + count → Each (IsDueFrom (round + quiet)) coming → rounds_in round all coming ≡ ticks quiet ++ rounds_in (round + quiet) count coming
unfolding rounds_in ticks
rounds-quiet zero round count all coming sum ahead =
    ap (λ n. rounds_in round n coming) (let same : all ≡ count = omega (arith, sum) in same) ∙ ap (λ r. rounds_in r count coming) (let same : round ≡ round + 0 = omega arith in same)
rounds-quiet (suc quiet) round count zero coming sum ahead = absurd (omega (arith, sum))
rounds-quiet (suc quiet) round count (suc all) coming sum ahead =
    let later : suc round + quiet ≡ round + suc quiet = omega arith in
    ap (λ asks. asks ++ Tick ∷ rounds_in (suc round) all coming) (none-arrives round coming (Each-if (IsDueFrom (round + suc quiet)) (IsDueFrom (suc round)) coming (λ f due. omega (arith, due)) ahead))
    ∙ ap (λ asks. Tick ∷ asks) (rounds-quiet quiet (suc round) count all coming (omega (arith, sum)) (subst (λ r. Each (IsDueFrom r) coming) (sym later) ahead))
    ∙ ap (λ r. Tick ∷ (ticks quiet ++ rounds_in r count coming)) later

pub rounds-none-coming : (round count : ℕ) → rounds_in round count [] ≡ ticks count
unfolding rounds_in
rounds-none-coming round count = rounds-quiet count round 0 count [] (omega arith) tt ∙ append-nil (ticks count)

module _ (f : Flight) (coming : List Flight) where
  -- one that has come doesn't come again
  pub rounds-past : (round count : ℕ) → f.round < round → rounds_in round count (f ∷ coming) ≡ rounds_in round count coming
  unfolding rounds_in
  rounds-past round zero past = refl
  rounds-past round (suc count) past =
      let off : arrivals_in round (f ∷ coming) ≡ arrivals_in round coming = rw (ne_eqb f.round round (λ same. omega (arith, same, past))) refl in
      ap (λ asks. asks ++ Tick ∷ rounds_in (suc round) count (f ∷ coming)) off ∙ ap (λ asks. arrivals_in round coming ++ Tick ∷ asks) (rounds-past (suc round) count (omega (arith, past)))

  -- the next one comes at once
  pub rounds-next : (round count : ℕ) → f.round ≡ round → 1 ≤ count → rounds_in round count (f ∷ coming) ≡ Arrive f.packet ∷ rounds_in round count coming
  unfolding rounds_in
  rounds-next round zero due some = absurd (omega (arith, some))
  rounds-next round (suc count) due some =
      ap (λ asks. asks ++ Tick ∷ rounds_in (suc round) count (f ∷ coming)) (arrives-next round f coming due)
      ∙ ap (λ asks. Arrive f.packet ∷ (arrivals_in round coming ++ Tick ∷ asks)) (rounds-past (suc round) count (omega (arith, due)))

  -- the next one comes after the ticks of the rounds before it
  pub rounds-until : (round until : ℕ) → round ≤ f.round → f.round < until → Rise (f ∷ coming)
      → rounds_in round (until - round) (f ∷ coming) ≡ ticks (f.round - round) ++ Arrive f.packet ∷ rounds_in f.round (until - f.round) coming
  rounds-until round until ahead early rise =
      let all : until - round ≡ (f.round - round) + (until - f.round) = omega (arith, ahead, early) in
      let at : round + (f.round - round) ≡ f.round = omega (arith, ahead) in
      rounds-quiet (f.round - round) round (until - f.round) (until - round) (f ∷ coming) all (subst (λ r. Each (IsDueFrom r) (f ∷ coming)) (sym at) (omega arith, rise.0))
      ∙ ap (λ r. ticks (f.round - round) ++ rounds_in r (until - f.round) (f ∷ coming)) at
      ∙ ap (λ asks. ticks (f.round - round) ++ asks) (rounds-next f.round (until - f.round) refl (omega (arith, early)))

-- ---- the loop over those that come

-- one more has come
pub one-more : (f : Flight) (coming : List Flight) (round until : ℕ) (asked mid new : List Asked) (all : List Ask) → round ≤ f.round → f.round < until → Rise (f ∷ coming)
    → asks_in asked ++ rounds_in round (until - round) (f ∷ coming) ≡ all → asks_in mid ≡ asks_in asked ++ ticks (f.round - round) → new ≡ mid ++ Arrives f.packet ∷ []
    → asks_in new ++ rounds_in f.round (until - f.round) coming ≡ all
one-more f coming round until asked mid new all ahead early rise was ticked arrived =
    let rest = rounds_in f.round (until - f.round) coming in
    ap (λ n. asks_in n ++ rest) arrived
    ∙ ap (λ asks. asks ++ rest) (arrival-more mid f.packet)
    ∙ append_assoc (asks_in mid) (Arrive f.packet ∷ []) rest
    ∙ ap (λ asks. asks ++ Arrive f.packet ∷ rest) ticked
    ∙ append_assoc (asks_in asked) (ticks (f.round - round)) (Arrive f.packet ∷ rest)
    ∙ ap (λ asks. asks_in asked ++ asks) (sym (rounds-until f coming round until ahead early rise))
    ∙ was

-- none is left to come
pub none-left-to-come : (coming : List Flight) (round until : ℕ) (asked new : List Asked) (all : List Ask) → coming ≡ []
    → asks_in asked ++ rounds_in round (until - round) coming ≡ all → asks_in new ≡ asks_in asked ++ ticks (until - round) → asks_in new ≡ all
none-left-to-come coming round until asked new all none was ticked =
    ticked ∙ ap (λ asks. asks_in asked ++ asks) (sym (rounds-none-coming round (until - round)) ∙ ap (λ fs. rounds_in round (until - round) fs) (sym none)) ∙ was

-- ---- the window

-- from the start of a round it is whole rounds
pub window-whole : (n until : ℕ) (at : Plane) (coming : List Flight) → at.ticked ≡ 0 → at.round < until → AreComing n at.round until at.flights coming → window_at n until at ≡ rounds_in at.round (until - at.round) coming
unfolding rounds_at
window-whole n until at coming starts early are =
    let count : until - at.round ≡ suc (until - suc at.round) = omega (arith, early) in
    let tick : tick_left n at ≡ Tick ∷ [] = rw (starts, le-ltb n 0 (omega arith)) refl in
    let rounds : rounds_in at.round (suc (until - suc at.round)) coming ≡ rounds_at n at.round (suc (until - suc at.round)) at.flights =
    rounds-as n at.round (suc (until - suc at.round)) coming at.flights (λ k from below. are.all k from (omega (arith, early, below))) in
    let opened : window_at n until at ≡ arrivals_at n at.round at.flights ++ (tick_left n at ++ rounds_at n (suc at.round) (until - suc at.round) at.flights) = rw (lt-ltb at.round until early) refl in
    opened
    ∙ ap (λ asks. arrivals_at n at.round at.flights ++ (asks ++ rounds_at n (suc at.round) (until - suc at.round) at.flights)) tick
    ∙ sym (ap (λ c. rounds_in at.round c coming) count ∙ rounds)
