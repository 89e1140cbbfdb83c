-- The rows that have their turn in a tick make their steps, and the next packets of all come on the calendar again.
use Rattle.std.proofs.Common.{◌≡◌, ◌≢◌, ℕ, suc, ◌+◌, ◌-◌, ◌<◌, ◌≤◌, Bool, true, false, inl, inr, ⊎_elim, List, [], ◌∷◌, length, map, get_or, set, drop, refl, sym, ap, ◌∙◌, subst, All, arith}
use Rattle.std.proofs.lemmas.Bool.{cases_Bool, cases_lt, eqb-true, eq-eqb, leb-true, false≢true}
use Rattle.std.proofs.lemmas.List.{drop_more, drop_all, get_or_past, get_or_default, get_or-set_same, get_or-set_other, length-set}
use Rattle.link_server.proofs.Words.{nat_eq, nat_le, if◌then◌else◌, AccountRow, account_after_step, Each, SourcePacket, left_at, Arrival, SourceStep, Rests, Brings, Drops, Entry, Timetable, row_in, ServedRow}
use Rattle.link_server.specs.Planned.{IsPlannedFrom}
use Rattle.link_server.specs.KeyedList.{AreRising}
use Rattle.link_server.specs.Plans.{IsTold, idle_count, idle_in, is_turn, ArePlanned, AreCalled, IsQuiet}
use Rattle.link_server.proofs.Calendars.HoldRows.{each-place}
use Rattle.link_server.proofs.Calendars.Plans.{told-quiet}
use Rattle.link_server.proofs.Waiting.Rising.{rising-below, rising-next, none-first, none-between}
use Rattle.link_server.proofs.RowsOfTable.Totals.{row-set}
use Rattle.link_server.proofs.Sourcing.Rows.{HaveStepped, none-stepped, quiet-up-to}

-- ---- the packets

-- the rows without a turn have no packet for the tick
pub others-quiet : (clock : ℕ) (plans : Timetable) (turns : List ℕ) (rows : List ServedRow) → AreCalled clock plans turns rows → All (λ entry. clock < entry.0) plans.entries → (place : ℕ) (d : ServedRow) → place < length rows → is_turn turns place ≡ false → IsQuiet (suc clock) (row_in (get_or rows place d))
others-quiet clock plans turns rows called later place d inside not =
    told-quiet clock plans.entries (get_or rows place d) later (called.told place d inside not)

-- the place of the first turn, or the end of the rows, isn't past them
turn-within : (high : ℕ) (turns : List ℕ) (k : ℕ) → AreRising 0 high turns → get_or turns k high ≤ high
turn-within high turns k rising = elim (cases_lt k (length turns)) [
  | inl below ↦ (let less = rising-below 0 high turns k high rising below in omega (arith, less))
  | inr past ↦ (let end : get_or turns k high ≡ high = get_or_past turns k high past in omega (arith, end))
]

-- so the rows before it have made their steps as they are
pub first-turn : (bounds : List ℕ) (was : List Arrival) (t before : ℕ) (plans : Timetable) (turns : List ℕ) (rows : List ServedRow) → AreCalled t plans turns rows → All (λ entry. t < entry.0) plans.entries
    → HaveStepped bounds was t before rows (get_or turns 0 (length rows)) rows was before 0
first-turn bounds was t before plans turns rows called later =
    let within = turn-within (length rows) turns 0 called.rising in
    quiet-up-to bounds was t before rows 0 (get_or turns 0 (length rows)) rows was before 0 (none-stepped bounds was t before rows) (omega arith) within
    (λ place d from below. others-quiet t plans turns rows called later place d (omega (arith, below, within)) (none-first 0 (length rows) turns place called.rising below))

-- and those between one turn and the next
pub next-turn : (bounds : List ℕ) (was : List Arrival) (t before : ℕ) (plans : Timetable) (turns : List ℕ) (old : List ServedRow) (k : ℕ) (rows : List ServedRow) (here : List Arrival) (taken lost : ℕ) → AreCalled t plans turns old → All (λ entry. t < entry.0) plans.entries → length rows ≡ length old → k < length turns
    → HaveStepped bounds was t before old (get_or turns k 0 + 1) rows here taken lost → HaveStepped bounds was t before old (get_or turns (k + 1) (length old)) rows here taken lost
next-turn bounds was t before plans turns old k rows here taken lost called later same inside so =
    let next : k + 1 ≡ suc k = omega arith in
    let within = turn-within (length old) turns (suc k) called.rising in
    let rises = rising-next 0 (length old) turns k 0 called.rising inside in
    subst (λ n. HaveStepped bounds was t before old (get_or turns n (length old)) rows here taken lost) (sym next)
    (quiet-up-to bounds was t before old (get_or turns k 0 + 1) (get_or turns (suc k) (length old)) rows here taken lost so (omega (arith, rises)) (omega (arith, within, same))
    (λ place d from below. others-quiet t plans turns old called later place d (omega (arith, below, within)) (none-between 0 (length old) turns k 0 place called.rising inside (omega (arith, from)) below)))

-- a turn is a row's, before which all have made their steps
pub turn-inside : (turns : List ℕ) (old rows : List ServedRow) (k : ℕ) → AreRising 0 (length old) turns → length rows ≡ length old → k < length turns → get_or turns k 0 < length rows
turn-inside turns old rows k rising same inside = (let below = rising-below 0 (length old) turns k 0 rising inside in omega (arith, below, same))

pub turn-due : (bounds : List ℕ) (was : List Arrival) (t before : ℕ) (turns : List ℕ) (old : List ServedRow) (k : ℕ) (rows : List ServedRow) (here : List Arrival) (taken lost : ℕ) → k < length turns
    → HaveStepped bounds was t before old (get_or turns k (length old)) rows here taken lost → HaveStepped bounds was t before old (get_or turns k 0) rows here taken lost
turn-due bounds was t before turns old k rows here taken lost inside so =
    subst (λ n. HaveStepped bounds was t before old n rows here taken lost) (get_or_default turns k (length old) 0 inside) so

-- ---- the calendar

-- after its step a row has packets left for later ticks alone
later-left : (t : ℕ) (left : List SourcePacket) → Each (IsPlannedFrom (suc t)) (left_at (suc t) left)
later-left t [] = tt
later-left t (p ∷ left) = from (nat_le (suc t) p.tick) refl (later-left t left) where
  from : (b : Bool) → nat_le (suc t) p.tick ≡ b → Each (IsPlannedFrom (suc t)) (left_at (suc t) left) → Each (IsPlannedFrom (suc t)) (if b then p ∷ left_at (suc t) left else left_at (suc t) left)
  from true is rest = (leb-true (suc t) p.tick is, rest)
  from false is rest = rest

left-after : (step : SourceStep) (t place : ℕ) (row : AccountRow) → (account_after_step step t place row).left ≡ left_at (suc t) row.left
left-after Rests t place row = refl
left-after (Brings size) t place row = refl
left-after Drops t place row = refl

pub stepped-later : (step : SourceStep) (t place : ℕ) (new row : AccountRow) → new ≡ account_after_step step t place row → Each (IsPlannedFrom (suc t)) new.left
stepped-later step t place new row same =
    subst (Each (IsPlannedFrom (suc t))) (sym (ap (λ r. r.left) same ∙ left-after step t place row)) (later-left t row.left)

-- the row of a turn is told of once its next packet was put, and so are those that were told of
pub told-after : (turns : List ℕ) (k : ℕ) (old new : List Entry) (rows : List ServedRow) (row : ServedRow) → k < length turns → get_or turns k 0 < length rows
    → ((place : ℕ) (d : ServedRow) → place < length rows → is_turn (drop k turns) place ≡ false → IsTold old (row_in (get_or rows place d)))
    → ((other : AccountRow) → IsTold old other → IsTold new other) → IsTold new (row_in row)
    → (place : ℕ) (d : ServedRow) → place < length (set rows (get_or turns k 0) row) → is_turn (drop (k + 1) turns) place ≡ false → IsTold new (row_in (get_or (set rows (get_or turns k 0) row) place d))
told-after turns k old new rows row inside within told others own place d below not =
    ⊎_elim
    (λ (same : nat_eq place (get_or turns k 0) ≡ true).
    (let is = eqb-true place (get_or turns k 0) same in
    subst (λ r. IsTold new (row_in r)) (sym (ap (λ n. get_or (set rows (get_or turns k 0) row) n d) is ∙ get_or-set_same rows (get_or turns k 0) row d within)) own))
    (λ (apart : nat_eq place (get_or turns k 0) ≡ false).
    (let long = length-set rows (get_or turns k 0) row in
    let other : place ≢ get_or turns k 0 = λ same. false≢true (sym apart ∙ eq-eqb place (get_or turns k 0) same) in
    let without : is_turn (drop k turns) place ≡ false = ap (λ all. is_turn all place) (drop_more turns k 0 inside) ∙ rw apart not in
    subst (λ r. IsTold new (row_in r)) (sym (get_or-set_other rows (get_or turns k 0) place row d other)) (others (row_in (get_or rows place d)) (told place d (omega (arith, below, long)) without))))
    (cases_Bool (nat_eq place (get_or turns k 0)))

-- and there is room for the rest
pub room-after : (turns place : ℕ) (old new : Timetable) (rows : List ServedRow) (i : ℕ) (row d : ServedRow) → place < turns → i < length rows → idle_in (map row_in rows) + (turns - place) ≤ old.spare → idle_count (row_in row) + old.spare ≤ new.spare + 1 → idle_in (map row_in (set rows i row)) + (turns - (place + 1)) ≤ new.spare
room-after turns place old new rows i row d inside within room spare =
    let all = row-set idle_count rows i row d within in
    omega (arith, inside, room, spare, all)

-- at the end all are told of
pub all-turned : (clock : ℕ) (plans : Timetable) (turns : List ℕ) (k : ℕ) (rows : List ServedRow) → plans.clock ≤ clock → length turns ≤ k → ((place : ℕ) (d : ServedRow) → place < length rows → is_turn (drop k turns) place ≡ false → IsTold plans.entries (row_in (get_or rows place d)))
    → idle_in (map row_in rows) + (length turns - k) ≤ plans.spare → ArePlanned clock plans (map row_in rows)
all-turned clock plans turns k rows begun past told room = record {
  begun = begun;
  told = each-place (IsTold plans.entries) rows (λ place d inside. told place d inside (ap (λ all. is_turn all place) (drop_all k turns past)));
  room = omega (arith, room);
}
