-- The first flight that is due in the round at hand is the one that the calendar tells.
use Rattle.std.proofs.Common.{◌≡◌, ℕ, suc, Bor, ◌+◌, ◌<◌, ◌≤◌, nat_eq, List, [], ◌∷◌, ◌++◌, Option, Some, None, is_some, refl, sym, ap, ◌∙◌, subst, arith, inl, inr}
use Rattle.std.proofs.lemmas.Bool.{cases_Bool, eq-eqb, eqb-false, ne_eqb}
use Rattle.std.specs.List.{All, find}
use Rattle.std.specs.Prelude.{IsNone, IsSome, IfSome, option_copied}
use Rattle.link_steps.specs.Lists.{Each, without_first}
use Rattle.link_steps.proofs.SearchAndFilter.{Each-append}
use Rattle.tick_calendar.specs.Calendar.{TimetableOf, TakesDue, due_key, left_after}
use Rattle.tick_calendar.proofs.TakesWhatIsDue.{takes-due}
use Rattle.tick_plane.specs.declared.flight.Flight.{Flight}
use Rattle.tick_plane.specs.Planes.{is_due}
use Rattle.tick_plane.specs.Carried.{Way, flight_at, flights_at, ArePunctual, IsFrom, IsAfter, IsFirst, IsDue}
use Rattle.tick_plane.specs.declared.flight.OnWay.{OnWay}

pub each-all : (P : Way → Type 0) (entries : List Way) → All P entries → Each P entries
each-all P [] all = tt
each-all P (entry ∷ entries) all = (all 0 entry (omega arith), each-all P entries (λ k d lt. all (suc k) d (omega (arith, lt))))

-- ---- a list without one that is due

none-found : (round : ℕ) (entries : List Way) → Each (IsAfter round) entries → find (is_due round) (flights_at entries) ≡ None
none-found round [] later = refl
none-found round (entry ∷ entries) later =
    rw (ne_eqb entry.0 round (λ same. let after = later.0 in absurd (omega (arith, same, after)))) (none-found round entries later.1)

pub none-due : (round : ℕ) (entries : List Way) (due : Option OnWay) → IsDue round entries due → due ≡ None → find (is_due round) (flights_at entries) ≡ None
none-due round entries None later is = none-found round entries later
none-due round entries (Some way) later is = absurd (cc (is))

-- where none is found, all are due later
pub all-later : (round : ℕ) (entries : List Way) → Each (IsFrom round) entries → find (is_due round) (flights_at entries) ≡ None → Each (IsFrom (round + 1)) entries
all-later round [] from none = tt
all-later round (entry ∷ entries) from none =
    elim (cases_Bool (nat_eq entry.0 round)) [
      | inl due ↦ absurd (let clash : Some (flight_at entry) ≡ None = rw due at none in cc)
      | inr other ↦ (
        (let apart = eqb-false entry.0 round other in let least = from.0 in omega (arith, apart, least)),
        all-later round entries from.1 (rw other at none),
      )
    ]

-- ---- a list with one

module _ (round : ℕ) (way : OnWay) (after : List Way) where
  pub first-found : (before : List Way) → Each (IsAfter round) before → find (is_due round) (flights_at (before ++ (round, way) ∷ after)) ≡ Some (flight_at (round, way))
  first-found [] later = rw (eq-eqb round round refl) refl
  first-found (entry ∷ before) later =
      rw (ne_eqb entry.0 round (λ same. let past = later.0 in absurd (omega (arith, same, past)))) (first-found before later.1)

  pub first-left : (before : List Way) → Each (IsAfter round) before → without_first (is_due round) (flights_at (before ++ (round, way) ∷ after)) ≡ flights_at (before ++ after)
  unfolding without_first
  first-left [] later = rw (eq-eqb round round refl) refl
  first-left (entry ∷ before) later =
      rw (ne_eqb entry.0 round (λ same. let past = later.0 in absurd (omega (arith, same, past)))) (ap (λ (fs : List Flight). flight_at entry ∷ fs) (first-left before later.1))

pub one-due : (round : ℕ) (entries : List Way) (due : Option OnWay) (way : OnWay) → IsDue round entries due → due ≡ Some way → IsFirst round way entries
one-due round entries None way is same = absurd (cc (same))
one-due round entries (Some k) way is same = subst (λ (d : Option OnWay). IsDue round entries d) same is

pub found-due : (round : ℕ) (way : OnWay) (entries : List Way) → IsFirst round way entries → find (is_due round) (flights_at entries) ≡ Some (flight_at (round, way))
found-due round way entries first = ap (λ es. find (is_due round) (flights_at es)) first.is ∙ first-found round way first.after first.before first.later

-- ---- what the calendar tells

-- what is taken where none is late
pub record Lands (round : ℕ) (way : OnWay) (entries left : List Way) : Type 0 where
  pub before : List Way
  pub after : List Way
  pub is : entries ≡ before ++ (round, way) ∷ after
  pub later : Each (IsAfter round) before
  pub left_is : left ≡ before ++ after

from-at : (round tick : ℕ) (way : OnWay) (before after entries : List Way) → entries ≡ before ++ (tick, way) ∷ after → Each (IsFrom round) entries → round ≤ tick
from-at round tick way before after entries is from = (split before (subst (Each (IsFrom round)) is from)) where
  split : (before : List Way) → Each (IsFrom round) (before ++ (tick, way) ∷ after) → round ≤ tick
  split [] from = from.0
  split (entry ∷ before) from = split before from.1

pub lands : (round : ℕ) (way : OnWay) (entries left : List Way) → Each (IsFrom round) entries → TakesDue entries left round way → Lands round way entries left
lands round way entries left from taken =
    let least = from-at round taken.tick way taken.before taken.after entries taken.was from in
    let due = taken.due in
    let same : taken.tick ≡ round = omega (arith, least, due) in
    record {
      before = taken.before;
      after = taken.after;
      is = taken.was ∙ ap (λ t. taken.before ++ (t, way) ∷ taken.after) same;
      later = subst (λ t. Each (λ (entry : Way). t < entry.0) taken.before) same (each-all (λ entry. taken.tick < entry.0) taken.before taken.earliest);
      left_is = taken.left;
    }

pub is-due : (round : ℕ) (entries : List Way) (due : Option OnWay) → Each (IsFrom round) entries → due ≡ due_key entries round → (IsNone due → All (λ entry. round < entry.0) entries) → IsDue round entries due
is-due round entries None from is none = each-all (λ entry. round < entry.0) entries (none refl)
is-due round entries (Some way) from is none =
    let land = lands round way entries (left_after entries round) from (takes-due entries (left_after entries round) round way (sym is) refl) in
    record { before = land.before; after = land.after; is = land.is; later = land.later }

-- what the calendar tells is the first that is due, or that none is
pub told-due : (ways : TimetableOf OnWay) (told : Option (Bor OnWay)) → ArePunctual ways → option_copied told ≡ due_key ways.entries ways.clock → (IsNone told → All (λ entry. ways.clock < entry.0) ways.entries) → IsDue ways.clock ways.entries (option_copied told)
told-due ways None from is none = is-due ways.clock ways.entries None from is none
told-due ways (Some way) from is none = is-due ways.clock ways.entries (Some way.now) from is (λ untold. absurd (cc (untold)))

pub due-told : (ways : TimetableOf OnWay) (told : Option (Bor OnWay)) → ArePunctual ways → option_copied told ≡ due_key ways.entries ways.clock → (IsNone told → All (λ entry. ways.clock < entry.0) ways.entries) → is_some told ≡ is_some (find (is_due ways.clock) (flights_at ways.entries))
due-told ways None from is none = ap is_some (sym (none-due ways.clock ways.entries None (told-due ways None from is none) refl))
due-told ways (Some way) from is none = ap is_some (sym (found-due ways.clock way.now ways.entries (told-due ways (Some way) from is none)))

pub none-told : (ways : TimetableOf OnWay) (told : Option (Bor OnWay)) → ArePunctual ways → option_copied told ≡ due_key ways.entries ways.clock → (IsNone told → All (λ entry. ways.clock < entry.0) ways.entries) → told ≡ None → find (is_due ways.clock) (flights_at ways.entries) ≡ None
none-told ways told from is none untold = none-due ways.clock ways.entries (option_copied told) (told-due ways told from is none) (ap option_copied untold)

pub one-told : (ways : TimetableOf OnWay) (told : Option (Bor OnWay)) (way : OnWay) → ArePunctual ways → option_copied told ≡ due_key ways.entries ways.clock → (IsNone told → All (λ entry. ways.clock < entry.0) ways.entries) → option_copied told ≡ Some way → find (is_due ways.clock) (flights_at ways.entries) ≡ Some (flight_at (ways.clock, way))
one-told ways told way from is none some = found-due ways.clock way ways.entries (one-due ways.clock ways.entries (option_copied told) way (told-due ways told from is none) some)

-- ---- the entries as they come and go

pub punctual-put : (ways : TimetableOf OnWay) (round : ℕ) (way : OnWay) → ways.clock < round → ArePunctual ways → Each (IsFrom ways.clock) (ways.entries ++ (round, way) ∷ [])
punctual-put ways round way later from = Each-append (IsFrom ways.clock) ways.entries ((round, way) ∷ []) from (omega (arith, later), tt)

pub from-left : (round : ℕ) (way : OnWay) (entries left : List Way) → Lands round way entries left → Each (IsFrom round) entries → Each (IsFrom round) left
from-left round way entries left land from = subst (Each (IsFrom round)) (sym land.left_is) (split land.before (subst (Each (IsFrom round)) land.is from)) where
  split : (before : List Way) → Each (IsFrom round) (before ++ (round, way) ∷ land.after) → Each (IsFrom round) (before ++ land.after)
  split [] from = from.1
  split (entry ∷ before) from = (from.0, split before from.1)

-- none of these is due, and none that departs is
pub none-with : (round : ℕ) (flights new : List Flight) → find (is_due round) flights ≡ None → Each (λ flight. round < flight.round) new → find (is_due round) (flights ++ new) ≡ None
none-with round [] [] none later = refl
none-with round [] (flight ∷ new) none later =
    rw (ne_eqb flight.round round (λ same. let after = later.0 in absurd (omega (arith, same, after)))) (none-with round [] new refl later.1)
none-with round (flight ∷ flights) new none later =
    elim (cases_Bool (nat_eq flight.round round)) [
      | inl due ↦ absurd (let clash : Some flight ≡ None = rw due at none in cc)
      | inr other ↦ rw other (none-with round flights new (rw other at none) later)
    ]

-- ---- what is taken

-- where one is due, one is taken
pub some-due : (round : ℕ) (entries : List Way) (taken : Option OnWay) → (IsNone taken → All (λ entry. round < entry.0) entries) → IsSome (find (is_due round) (flights_at entries)) → IsSome taken
some-due round entries None none found =
    let no = none-found round entries (each-all (λ entry. round < entry.0) entries (none refl)) in
    absurd (let clash = subst (λ (f : Option Flight). IsSome f) no found in cc)
some-due round entries (Some way) none found = refl

pub taken-is : (taken : Option OnWay) → IsSome taken → (way : OnWay) × (taken ≡ Some way)
taken-is None some = absurd (cc (some))
taken-is (Some way) some = (way, refl)

pub lands-taken : (round : ℕ) (way : OnWay) (entries left : List Way) (taken : Option OnWay) → Each (IsFrom round) entries → taken ≡ Some way → IfSome taken (TakesDue entries left round) → Lands round way entries left
lands-taken round way entries left None from is tells = absurd (cc (is))
lands-taken round way entries left (Some k) from is tells = lands round way entries left from (subst (λ (d : Option OnWay). IfSome d (TakesDue entries left round)) is tells)

pub left-landed : (round : ℕ) (way : OnWay) (entries left : List Way) → Lands round way entries left → without_first (is_due round) (flights_at entries) ≡ flights_at left
left-landed round way entries left land = ap (λ es. without_first (is_due round) (flights_at es)) land.is ∙ first-left round way land.after land.before land.later ∙ ap flights_at (sym land.left_is)
