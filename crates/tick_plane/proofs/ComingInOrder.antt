-- The packets on their way to one link, in the order of their rounds: a stable sort of them is that order, and they are found by
-- going once from front to end.
use Rattle.std.proofs.Common.{◌≡◌, ◌≢◌, ℕ, zero, suc, ◌+◌, ◌-◌, ◌<◌, ◌≤◌, Bool, true, false, not, cond, ◌&&◌, List, [], ◌∷◌, ◌++◌, map, filter, length, drop, get_or, refl, sym, ap, ◌∙◌, subst, inl, inr, arith}
use Rattle.std.proofs.lemmas.Bool.{cases_Bool, cases_lt, eqb-false, eqb-true, eq-eqb, ne_eqb, lt-ltb, ltb-false, ltb-true}
use Rattle.std.proofs.lemmas.Bool.Decides.{nat_tests}
use Rattle.std.proofs.lemmas.Cmp.{nat_cmp_total}
use Rattle.std.proofs.lemmas.List.{append_assoc, append-nil, drop_more}
use Rattle.std.proofs.lemmas.List.Sorted.{ranks_by, sorted_far}
use Rattle.std.proofs.lemmas.List.Elements.{filter-append}
use Rattle.std.proofs.lemmas.Option.{slice_get_within}
use Rattle.std.specs.List.{slice_get}
use Rattle.std.specs.Prelude.{nat_eq, nat_lt, Some}
use Rattle.std.specs.Ordering.{is_lt, nat_cmp}
use Rattle.std.specs.declared.cmp.Ordering.TheVariants.{Less, Equal, Greater}
use Rattle.std.specs.List.Sorted.{IsSortedByKey, IsStableByKey}
use Rattle.net_units.specs.Numbers.{link_at, channel_at, link_number}
use Rattle.link_steps.specs.Lists.{Each}
use Rattle.link_steps.proofs.SearchAndFilter.{Each-filter, Each-from, Each-if, filter-filter, filter-map, filter-none}
use Rattle.link_steps.proofs.FoundElements.{Each-passes}
use Rattle.link_steps.proofs.ListParts.{Each-at, Each-by_index, stands-at}
use Rattle.link_steps.specs.declared.asks.Ask.{Ask}
use Rattle.link_steps.specs.declared.asks.Ask.TheVariants.{Arrive, Tick}
use Rattle.tick_plane.specs.declared.flight.Flight.{Flight}
use Rattle.tick_plane.specs.Carried.{Way, flight_at, flights_at}
use Rattle.tick_plane.specs.Coming.{IsDueBefore, IsDueFrom, Rise, is_before, is_to, AreByLink, AreComing, AreListed, arrivals_in, rounds_in, AreLeft}
use Rattle.tick_plane.specs.Planes.{Plane, is_due}
use Rattle.tick_plane.specs.Windows.{arrive_of, is_bound, arrivals_at, rounds_at, tick_left, window_at}

-- ---- a stable sort by rounds

abbrev pub round_of : Flight → ℕ
round_of flight = flight.round

less-first : (a b : Bool) → is_lt (cond a Less (cond b Equal Greater)) ≡ a
less-first true b = refl
less-first false true = refl
less-first false false = refl

less-lt : (x y : ℕ) → is_lt (nat_cmp x y) ≡ nat_lt x y
less-lt x y = less-first (nat_lt x y) (nat_eq x y)

rise-sorted : (flights : List Flight) → IsSortedByKey round_of nat_cmp flights → Rise flights
rise-sorted [] up = tt
rise-sorted (f ∷ fs) up = (
  Each-by_index (IsDueFrom f.round) fs (λ k d below.
      let far = sorted_far _ (ranks_by nat_cmp_total round_of) (f ∷ fs) up 0 (suc k) d (omega arith) (omega arith) in
      ltb-false (get_or fs k d).round f.round (sym (less-lt (get_or fs k d).round f.round) ∙ far)),
  rise-sorted fs (λ k d low below. (let one : suc k + 1 ≡ suc (k + 1) = omega arith in rw one at (up (suc k) d (omega arith) (omega arith)))),
)

ties-due : (round other : ℕ) → (not (is_lt (nat_cmp round other)) && not (is_lt (nat_cmp other round))) ≡ nat_eq other round
ties-due round other =
    (λ i. not (less-lt round other i) && not (less-lt other round i)) ∙ level where
      level : (not (nat_lt round other) && not (nat_lt other round)) ≡ nat_eq other round
      level = grind (arith, nat_tests)

-- a flight of the round, whichever it is
abbrev some_flight : ℕ → Flight
some_flight round = record { to = link_at 0; round = round; packet = record { chan = channel_at 0; number = 0; size = 0; due = 0 } }

due-stable : (round : ℕ) (own coming : List Flight) → IsStableByKey round_of nat_cmp own coming → filter (is_due round) coming ≡ filter (is_due round) own
due-stable round own coming stable =
    let tie : (f : Flight) → (not (is_lt (nat_cmp round f.round)) && not (is_lt (nat_cmp f.round round))) ≡ is_due round f = λ f. ties-due round f.round in
    ap (λ (test : Flight → Bool). filter test coming) (λ i f. sym (tie f) i) ∙ stable (some_flight round)
    ∙ ap (λ (test : Flight → Bool). filter test own) (λ i f. tie f i)

none-after : (f : Flight) (fs : List Flight) (round : ℕ) → filter (is_due round) (f ∷ fs) ≡ [] → filter (is_due round) fs ≡ []
none-after f fs round is =
    elim (cases_Bool (is_due round f)) [
      | inl due ↦ absurd (let clash : f ∷ filter (is_due round) fs ≡ [] = rw due at is in cc)
      | inr off ↦ rw off at is
    ]

-- none is early where none of a round before is among them
each-from : (from : ℕ) (flights : List Flight) → ((round : ℕ) → round < from → filter (is_due round) flights ≡ []) → Each (IsDueFrom from) flights
each-from from [] none = tt
each-from from (f ∷ fs) none = (
  elim (cases_lt f.round from) [
    | inl early ↦ absurd (let clash : f ∷ filter (is_due f.round) fs ≡ [] = rw (eq-eqb f.round f.round refl) at (none f.round early) in cc)
    | inr due ↦ due
  ],
  each-from from fs (λ round early. none-after f fs round (none round early)),
)

-- and none is late where none of a round after is among them
each-before : (until : ℕ) (flights : List Flight) → ((round : ℕ) → until ≤ round → filter (is_due round) flights ≡ []) → Each (IsDueBefore until) flights
each-before until [] none = tt
each-before until (f ∷ fs) none = (
  elim (cases_lt f.round until) [
    | inl early ↦ early
    | inr late ↦ absurd (let clash : f ∷ filter (is_due f.round) fs ≡ [] = rw (eq-eqb f.round f.round refl) at (none f.round late) in cc)
  ],
  each-before until fs (λ round late. none-after f fs round (none round late)),
)

-- a stable sort of those that are due from a round on leaves all of them
pub left-sorted : (from : ℕ) (flights sorted : List Flight) → Each (IsDueFrom from) flights → IsSortedByKey round_of nat_cmp sorted → IsStableByKey round_of nat_cmp flights sorted → AreLeft from flights sorted
left-sorted from flights sorted ahead up stable = record {
  rise = rise-sorted sorted up;
  ahead = each-from from sorted (λ round early. due-stable round flights sorted stable ∙ none-early round early);
  all = λ round past. due-stable round flights sorted stable;
} where
  none-early : (round : ℕ) → round < from → filter (is_due round) flights ≡ []
  none-early round early = filter-none (is_due round) flights (Each-if (IsDueFrom from) (λ f. is_due round f ≡ false) flights (λ f due. ne_eqb f.round round (λ same. omega (arith, due, same, early))) ahead)

-- what is left is due before a round where all were
pub left-before : (from until : ℕ) (flights left : List Flight) → from ≤ until → AreLeft from flights left → Each (IsDueBefore until) flights → Each (IsDueBefore until) left
left-before from until flights left past are before =
    each-before until left (λ round late. are.all round (omega (arith, past, late))
    ∙ filter-none (is_due round) flights (Each-if (IsDueBefore until) (λ f. is_due round f ≡ false) flights (λ f early. ne_eqb f.round round (λ same. omega (arith, early, same, late))) before))

-- ---- before a round

pub flights-before : (until : ℕ) (entries kept : List Way) → kept ≡ filter (λ entry. nat_lt entry.0 until) entries → flights_at kept ≡ filter (is_before until) (flights_at entries)
flights-before until entries kept is =
    ap (flights_at) is ∙ sym (filter-map (flight_at) (λ entry. nat_lt entry.0 until) (is_before until) entries (Each-from (λ entry. is_before until (flight_at entry) ≡ nat_lt entry.0 until) entries (λ entry. refl)))

-- ---- link by link

-- those that are due in a round, of those of a link that are due before a later one
module _ (n round until : ℕ) (early : round < until) where
  bound-so : (f : Flight) → (is_before until f && (is_to n f && is_due round f)) ≡ is_bound n round f
  bound-so f =
      elim (cases_Bool (is_due round f)) [
        | inl due ↦ (let at = eqb-true f.round round due in rw (due, lt-ltb f.round until (omega (arith, at, early))) (both (is_to n f)))
        | inr off ↦ rw off (neither (is_before until f) (is_to n f))
      ] where
        both : (b : Bool) → (b && true) ≡ b
        both true = refl
        both false = refl

        neither : (a b : Bool) → (a && (b && false)) ≡ false
        neither true true = refl
        neither true false = refl
        neither false b = refl

  pub bound-listed : (flights : List Flight) → filter (is_due round) (filter (is_to n) (filter (is_before until) flights)) ≡ filter (is_bound n round) flights
  bound-listed flights =
      filter-filter (is_due round) (is_to n) (filter (is_before until) flights)
      ∙ filter-filter (λ f. is_to n f && is_due round f) (is_before until) flights
      ∙ ap (λ (test : Flight → Bool). filter test flights) (λ i f. bound-so f i)

-- the link's own of a window, sorted, are those that reach it in it
pub coming-listed : {X : Type 0} (items : X → List Flight) (n until : ℕ) (at : Plane) (lists : List X) (own : X) (sorted : List Flight) → AreListed items until at lists → slice_get lists n ≡ Some own → AreLeft at.round (items own) sorted → AreComing n at.round until at.flights sorted
coming-listed items n until at lists own sorted are found left = record {
  rise = left.rise;
  ahead = left.ahead;
  all = λ round past early. left.all round past ∙ ap (filter (is_due round)) (are.by_link.own n own found) ∙ bound-listed n round until early at.flights;
}

pub own-ahead : {X : Type 0} (items : X → List Flight) (n until : ℕ) (at : Plane) (lists : List X) (own : X) → AreListed items until at lists → slice_get lists n ≡ Some own → Each (IsDueFrom at.round) (items own)
own-ahead items n until at lists own are found =
    subst (Each (IsDueFrom at.round)) (sym (are.by_link.own n own found)) (Each-filter (IsDueFrom at.round) (is_to n) (filter (is_before until) at.flights) are.ahead)

pub own-before : {X : Type 0} (items : X → List Flight) (n until : ℕ) (at : Plane) (lists : List X) (own : X) → AreListed items until at lists → slice_get lists n ≡ Some own → Each (IsDueBefore until) (items own)
own-before items n until at lists own are found =
    subst (Each (IsDueBefore until)) (sym (are.by_link.own n own found))
    (Each-filter (IsDueBefore until) (is_to n) (filter (is_before until) at.flights)
    (Each-if (λ f. is_before until f ≡ true) (IsDueBefore until) (filter (is_before until) at.flights) (λ f early. ltb-true f.round until early) (Each-passes (is_before until) at.flights)))

-- no flight is listed yet
pub none-listed : {X : Type 0} (items : X → List Flight) (lists : List X) → length lists ≡ 32 → Each (λ own. items own ≡ []) lists → AreByLink items [] lists
none-listed items lists long empty = record { long = long; own = λ n x found. Each-at (λ own. items own ≡ []) lists n x empty found }

-- one more is
pub one-listed : {X : Type 0} (items : X → List Flight) (flights : List Flight) (f : Flight) (old new : List X) → AreByLink items flights old → length new ≡ length old
    → ((n : ℕ) → n ≢ link_number f.to → slice_get new n ≡ slice_get old n) → ((x y : X) → slice_get old (link_number f.to) ≡ Some x → slice_get new (link_number f.to) ≡ Some y → items y ≡ items x ++ f ∷ []) → AreByLink items (flights ++ f ∷ []) new
one-listed items flights f old new were long others own = record {
  long = long ∙ were.long;
  own = λ n y found.
      elim (cases_Bool (nat_eq (link_number f.to) n)) [
        | inl at ↦
            (let same = eqb-true (link_number f.to) n at in
            let within = slice_get_within new n y found in
            let x = stands-at old n (omega (arith, within, long)) in
            own x.0 y (ap (slice_get old) same ∙ x.1) (ap (slice_get new) same ∙ found) ∙ ap (λ fs. fs ++ f ∷ []) (were.own n x.0 x.1)
            ∙ sym (filter-append (is_to n) flights (f ∷ []) ∙ ap (λ fs. filter (is_to n) flights ++ fs) (kept n at)))
        | inr off ↦
            were.own n y (sym (others n (λ same. eqb-false (link_number f.to) n off (sym same))) ∙ found)
            ∙ sym (filter-append (is_to n) flights (f ∷ []) ∙ ap (λ fs. filter (is_to n) flights ++ fs) (gone n off) ∙ append-nil (filter (is_to n) flights))
      ];
} where
  kept : (n : ℕ) → is_to n f ≡ true → filter (is_to n) (f ∷ []) ≡ f ∷ []
  kept n at = rw at refl

  gone : (n : ℕ) → is_to n f ≡ false → filter (is_to n) (f ∷ []) ≡ []
  gone n off = rw off refl

-- ---- round by round

module _ (round : ℕ) (f : Flight) (fs : List Flight) where
  pub arrives-next : f.round ≡ round → arrivals_in round (f ∷ fs) ≡ Arrive f.packet ∷ arrivals_in round fs
  arrives-next at = rw (eq-eqb f.round round at) refl

  pub later-next : (later : ℕ) → f.round ≡ round → suc round ≤ later → filter (is_due later) (f ∷ fs) ≡ filter (is_due later) fs
  later-next later at past = rw (ne_eqb f.round later (λ same. omega (arith, at, past, same))) refl

  -- the first is due later, and so are the others
  pub ahead-next : Rise (f ∷ fs) → round ≤ f.round → f.round ≢ round → Each (IsDueFrom (suc round)) (f ∷ fs)
  ahead-next rise least other =
      let past : suc round ≤ f.round = omega (arith, least, other) in
      (past, Each-if (IsDueFrom f.round) (IsDueFrom (suc round)) fs (λ g after. omega (arith, after, past)) rise.0)

pub none-arrives : (round : ℕ) (fs : List Flight) → Each (IsDueFrom (suc round)) fs → arrivals_in round fs ≡ []
none-arrives round fs later =
    ap (map arrive_of) (filter-none (is_due round) fs (Each-if (IsDueFrom (suc round)) (λ f. is_due round f ≡ false) fs (λ f after. ne_eqb f.round round (λ same. omega (arith, after, same))) later))

rounds-last : (round count : ℕ) (coming : List Flight) → rounds_in round (suc count) coming ≡ rounds_in round count coming ++ (arrivals_in (round + count) coming ++ Tick ∷ [])
unfolding rounds_in
rounds-last round zero coming = ap (λ r. arrivals_in r coming ++ Tick ∷ []) (let same : round ≡ round + 0 = omega arith in same)
rounds-last round (suc count) coming =
    let same : suc round + count ≡ round + suc count = omega arith in
    ap (λ asks. arrivals_in round coming ++ Tick ∷ asks) (rounds-last (suc round) count coming)
    ∙ sym (append_assoc (arrivals_in round coming) (Tick ∷ rounds_in (suc round) count coming) (arrivals_in (suc round + count) coming ++ Tick ∷ []))
    ∙ ap (λ r. (arrivals_in round coming ++ Tick ∷ rounds_in (suc round) count coming) ++ (arrivals_in r coming ++ Tick ∷ [])) same

pub rounds-none : (old : List Ask) (from : ℕ) (coming : List Flight) → old ≡ old ++ rounds_in from (from - from) coming
unfolding rounds_in
rounds-none old from coming =
    let none : from - from ≡ 0 = omega arith in
    sym (ap (λ c. old ++ rounds_in from c coming) none ∙ append-nil old)

-- one round more
module _ (old now mid new : List Ask) (from round : ℕ) (coming left : List Flight) (past : from ≤ round) (are : AreLeft round coming left) where
  pub rounds-more : now ≡ old ++ rounds_in from (round - from) coming → mid ≡ now ++ arrivals_in round left → new ≡ mid ++ Tick ∷ []
      → new ≡ old ++ rounds_in from (round + 1 - from) coming
  rounds-more was arrived ticked =
      let count : round + 1 - from ≡ suc (round - from) = omega (arith, past) in
      let at : from + (round - from) ≡ round = omega (arith, past) in
      let same : arrivals_in round left ≡ arrivals_in round coming = ap (map arrive_of) (are.all round (omega arith)) in
      let all : rounds_in from (round + 1 - from) coming ≡ rounds_in from (round - from) coming ++ (arrivals_in round coming ++ Tick ∷ []) =
      ap (λ c. rounds_in from c coming) count ∙ rounds-last from (round - from) coming
      ∙ ap (λ r. rounds_in from (round - from) coming ++ (arrivals_in r coming ++ Tick ∷ [])) at in
      ticked ∙ ap (λ asks. asks ++ Tick ∷ []) (arrived ∙ ap (λ asks. asks ++ arrivals_in round left) was ∙ ap (λ asks. (old ++ rounds_in from (round - from) coming) ++ asks) same)
      ∙ append_assoc (old ++ rounds_in from (round - from) coming) (arrivals_in round coming) (Tick ∷ [])
      ∙ append_assoc old (rounds_in from (round - from) coming) (arrivals_in round coming ++ Tick ∷ []) ∙ ap (λ asks. old ++ asks) (sym all)

-- those that are left of what is left
pub left-on : (round later : ℕ) (coming mid left : List Flight) → round ≤ later → AreLeft round coming mid → AreLeft later mid left → AreLeft later coming left
left-on round later coming mid left past first next = record {
  rise = next.rise;
  ahead = next.ahead;
  all = λ r from. next.all r from ∙ first.all r (omega (arith, past, from));
}

-- ---- the whole window

pub rounds-as : (n round count : ℕ) (coming flights : List Flight) → ((k : ℕ) → round ≤ k → k < round + count → filter (is_due k) coming ≡ filter (is_bound n k) flights)
    → rounds_in round count coming ≡ rounds_at n round count flights
unfolding rounds_in rounds_at
rounds-as n round zero coming flights same = refl
rounds-as n round (suc count) coming flights same =
    let first : arrivals_in round coming ≡ arrivals_at n round flights = ap (map arrive_of) (same round (omega arith) (omega arith)) in
    let rest = rounds-as n (suc round) count coming flights (λ k from below. same k (omega (arith, from)) (omega (arith, below))) in
    ap (λ asks. asks ++ Tick ∷ rounds_in (suc round) count coming) first ∙ ap (λ asks. arrivals_at n round flights ++ Tick ∷ asks) rest

module _ (n until : ℕ) (at : Plane) (early : at.round < until) (coming left : List Flight) where
  -- the arrivals of the first round, the tick that is left of it, and the rounds after it
  pub window-is : AreComing n at.round until at.flights coming → AreLeft (suc at.round) coming left → (next : ℕ) → next ≡ suc at.round → (old first mid all : List Ask)
      → first ≡ old ++ arrivals_in at.round coming → mid ≡ first ++ tick_left n at → all ≡ mid ++ rounds_in next (until - next) left → all ≡ old ++ window_at n until at
  window-is are rest next is old first mid all arrived ticked asked =
      let arrivals : arrivals_in at.round coming ≡ arrivals_at n at.round at.flights = ap (map arrive_of) (are.all at.round (omega arith) early) in
      let rounds : rounds_in (suc at.round) (until - suc at.round) left ≡ rounds_at n (suc at.round) (until - suc at.round) at.flights =
      rounds-as n (suc at.round) (until - suc at.round) left at.flights (λ k from below. rest.all k from ∙ are.all k (omega (arith, from)) (omega (arith, below, early))) in
      let window : window_at n until at ≡ arrivals_at n at.round at.flights ++ (tick_left n at ++ rounds_at n (suc at.round) (until - suc at.round) at.flights) = rw (lt-ltb at.round until early) refl in
      asked ∙ ap (λ k. mid ++ rounds_in k (until - k) left) is ∙ ap (λ asks. mid ++ asks) rounds
      ∙ ap (λ asks. asks ++ rounds_at n (suc at.round) (until - suc at.round) at.flights) (ticked ∙ ap (λ asks. asks ++ tick_left n at) (arrived ∙ ap (λ asks. old ++ asks) arrivals))
      ∙ append_assoc (old ++ arrivals_at n at.round at.flights) (tick_left n at) (rounds_at n (suc at.round) (until - suc at.round) at.flights)
      ∙ append_assoc old (arrivals_at n at.round at.flights) (tick_left n at ++ rounds_at n (suc at.round) (until - suc at.round) at.flights)
      ∙ ap (λ asks. old ++ asks) (sym window)

-- none has arrived yet
pub left-none : (round : ℕ) (coming : List Flight) → Rise coming → Each (IsDueFrom round) coming → AreLeft round coming coming
left-none round coming rise ahead = record { rise = rise; ahead = ahead; all = λ later from. refl }

-- where the next one is due later than in this round, so are all that are left
pub later-drop : (coming : List Flight) (place round : ℕ) (f : Flight) → place < length coming → f ≡ get_or coming place f → Rise (drop place coming) → Each (IsDueFrom round) (drop place coming) → f.round ≢ round
    → Each (IsDueFrom (suc round)) (drop place coming)
later-drop coming place round f within is rise ahead other =
    let at : drop place coming ≡ f ∷ drop (place + 1) coming = drop_more coming place f within ∙ ap (λ g. g ∷ drop (place + 1) coming) (sym is) in
    subst (Each (IsDueFrom (suc round))) (sym at) (ahead-next round f (drop (place + 1) coming) (subst Rise at rise) (subst (Each (IsDueFrom round)) at ahead).0 other)

pub none-more : (round : ℕ) (old asks coming : List Ask) (left : List Flight) → Each (IsDueFrom (suc round)) left → asks ++ arrivals_in round left ≡ old ++ coming → asks ≡ old ++ coming
none-more round old asks coming left later is = sym (append-nil asks) ∙ ap (λ more. asks ++ more) (sym (none-arrives round left later)) ∙ is
