-- The calendar of plans goes with the rows: those that have their turn, and those that come, change and go.
use Rattle.std.proofs.Common.{◌≡◌, ℕ, ◌+◌, ◌<◌, ◌≤◌, Bool, true, false, not, ◌&&◌, ⊎_elim, List, [], ◌∷◌, ◌++◌, Some, None, length, map, get_or, set, refl, sym, ap, ◌∙◌, subst, arith}
use Rattle.std.proofs.lemmas.Bool.{cases_Bool, eqb-true, eq-eqb, false≢true}
use Rattle.std.proofs.lemmas.List.{nil_from_length, map_push, get_or_default}
use Rattle.link_server.proofs.Words.{remove, channel_number, ChanNo, Closing, AccountRow, Each, is_phase, SourcePacket, planned_from, is_for, Timetable, TakesDue, row_in, IsAbsent, IsPlaceOf, ServedRow}
use Rattle.std.specs.Prelude.{if◌then◌else◌, find, filter, is_none, nat_eq}
use Rattle.traffic_contract.proofs.AdmissionTest.{total-push}
use Rattle.link_steps.proofs.SearchAndFilter.{Each-append, Each-filter, Each-if}
use Rattle.link_server.specs.Index.{channel_in, channels_in, IsIndex}
use Rattle.link_server.proofs.RowsOfTable.Index.{one-place}
use Rattle.link_server.specs.Planned.{IsPlannedFrom, first_tick}
use Rattle.link_server.specs.KeyedList.{AreRising}
use Rattle.link_server.specs.Plans.{is_entry_of, IsTold, is_idle, idle_count, idle_in, is_turn, ArePlanned, AreCalled, IsPlaceOfKey, RestsIfOf}
use Rattle.link_server.specs.Sources.{IsReady, AreReady}
use Rattle.link_server.proofs.Calendars.HoldRows.{each-place}
use Rattle.link_server.proofs.Calendars.Expiry.{each-at, each-without, each-set}
use Rattle.link_server.proofs.Calendars.Plans.{told-without, other-entry, resting-entry}
use Rattle.link_server.proofs.Calendars.Quiet.{planned-quiet}
use Rattle.link_server.proofs.RowsOfTable.Totals.{rows-few, row-part, row-set, row-gone, rows-left}

-- ---- which row an entry that is due tells of

-- no row is that channel's, so none of its has a packet
pub absent-rests : (clock : ℕ) (chan : ChanNo) (key : ℕ) (rows : List ServedRow) → channel_number chan ≡ key → IsAbsent chan rows → Each (RestsIfOf clock key) (map row_in rows)
absent-rests clock chan key rows number absent =
    each-place (RestsIfOf clock key) rows
    (λ k d inside same. absurd (false≢true (sym (absent k d inside) ∙ eq-eqb (channel_number (get_or rows k d).chan) (channel_number chan) (same ∙ sym number))))

-- the row of the channel has none for the tick
pub place-rests : (clock : ℕ) (chan : ChanNo) (key i : ℕ) (rows : List ServedRow) (index keys : List ℕ) (row : ServedRow) → channel_number chan ≡ key → IsIndex index keys (channels_in rows) → IsPlaceOf chan rows i → row ≡ get_or rows i row → find (is_for clock) (row_in row).left ≡ None → Each (RestsIfOf clock key) (map row_in rows)
place-rests clock chan key i rows index keys row number is place at none =
    each-place (RestsIfOf clock key) rows
    (λ k d inside same.
    (let own = eqb-true (channel_in (get_or rows i row)) (channel_number chan) (place.here row) in
    let here = one-place index keys rows k i d row is inside place.inside (same ∙ sym number ∙ sym own) in
    subst (λ r. find (is_for clock) (row_in r).left ≡ None) (at ∙ ap (λ n. get_or rows n row) (sym here) ∙ get_or_default rows k row d inside) none))

pub key-at : (chan : ChanNo) (key i : ℕ) (rows : List ServedRow) → channel_number chan ≡ key → IsPlaceOf chan rows i → IsPlaceOfKey key rows i
key-at chan key i rows number place = record {
  inside = place.inside;
  key_is = λ d. eqb-true (channel_in (get_or rows i d)) (channel_number chan) (place.here d) ∙ number;
}

-- ---- the rows that have their turn

-- at first none has
pub none-called : (clock : ℕ) (plans : Timetable) (rows : List ServedRow) → ArePlanned clock plans (map row_in rows) → AreCalled clock plans [] rows
none-called clock plans rows planned = record {
  begun = planned.begun;
  rising = omega arith;
  told = λ place d inside other. each-at (IsTold plans.entries) rows place d inside planned.told;
  room = (let room = planned.room in omega (arith, room));
}

-- the entry that is taken tells of no row that has none
pub called-rests : (clock key : ℕ) (old new : Timetable) (turns : List ℕ) (rows : List ServedRow) → AreCalled clock old turns rows → AreReady clock rows → TakesDue old.entries new.entries clock key → old.spare ≤ new.spare → new.clock ≡ clock → Each (RestsIfOf clock key) (map row_in rows) → AreCalled clock new turns rows
called-rests clock key old new turns rows called ready due spare begun rests = record {
  begun = omega (arith, begun);
  rising = called.rising;
  told = λ place d inside other.
      subst (λ entries. IsTold entries (row_in (get_or rows place d))) (sym due.left)
      (told-without due.before due.after (due.tick, key) (row_in (get_or rows place d))
      (λ tick first. not-its place d inside tick first)
      (subst (λ entries. IsTold entries (row_in (get_or rows place d))) due.was (called.told place d inside other)));
  room = (let room = called.room in omega (arith, room, spare));
} where
  not-its : (place : ℕ) (d : ServedRow) → place < length rows → (tick : ℕ) → first_tick (row_in (get_or rows place d)).left ≡ Some tick → is_entry_of tick (channel_in (get_or rows place d)) (due.tick, key) ≡ false
  not-its place d inside tick first =
      let row = row_in (get_or rows place d) in
      ⊎_elim
      (λ (same : nat_eq (channel_number row.terms.chan) key ≡ true).
      resting-entry clock due.tick key tick row (each-at (IsReady clock) rows place d inside ready).ahead (each-at (RestsIfOf clock key) rows place d inside rests (eqb-true (channel_number row.terms.chan) key same)) due.due first)
      (λ (apart : nat_eq (channel_number row.terms.chan) key ≡ false). other-entry due.tick key tick (channel_number row.terms.chan) (λ same. false≢true (sym apart ∙ eq-eqb (channel_number row.terms.chan) key same)))
      (cases_Bool (nat_eq (channel_number row.terms.chan) key))

-- and of one that has its turn from then on
pub called-more : (clock key i : ℕ) (old new : Timetable) (turns more : List ℕ) (index keys : List ℕ) (rows : List ServedRow) → AreCalled clock old turns rows → IsIndex index keys (channels_in rows) → TakesDue old.entries new.entries clock key → new.spare ≡ old.spare + 1 → new.clock ≡ clock → IsPlaceOfKey key rows i
    → AreRising 0 (length rows) more → is_turn more i ≡ true → ((other : ℕ) → is_turn more other ≡ false → is_turn turns other ≡ false) → length more ≤ length turns + 1 → AreCalled clock new more rows
called-more clock key i old new turns more index keys rows called is due spare begun place rising its others one = record {
  begun = omega (arith, begun);
  rising = rising;
  told = λ other d inside not.
      subst (λ entries. IsTold entries (row_in (get_or rows other d))) (sym due.left)
      (told-without due.before due.after (due.tick, key) (row_in (get_or rows other d))
      (λ tick first. other-entry due.tick key tick (channel_in (get_or rows other d))
      (λ same. false≢true (sym not ∙ ap (is_turn more) (one-place index keys rows other i d d is inside place.inside (same ∙ sym (place.key_is d))) ∙ its)))
      (subst (λ entries. IsTold entries (row_in (get_or rows other d))) due.was (called.told other d inside (others other not))));
  room = (let room = called.room in omega (arith, room, spare, one));
}

-- ---- rows that come, change and go

idle-most : (row : AccountRow) → idle_count row ≤ 1
idle-most row = most (is_idle row) where
  most : (b : Bool) → (if b then 1 else 0) ≤ 1
  most true = omega arith
  most false = omega arith

-- more room in the calendar
pub planned-reserved : (clock : ℕ) (old new : Timetable) (rows : List AccountRow) → new ≡ record old { spare = new.spare } → old.spare ≤ new.spare → ArePlanned clock old rows → ArePlanned clock new rows
planned-reserved clock old new rows same grows planned = record {
  begun = (let begun = planned.begun in let clock_is : new.clock ≡ old.clock = ap (λ s. s.clock) same in omega (arith, begun, clock_is));
  told = subst (λ entries. Each (IsTold entries) rows) (sym (ap (λ s. s.entries) same)) planned.told;
  room = (let room = planned.room in omega (arith, room, grows));
}

-- a later clock
pub planned-later : (clock later : ℕ) (plans : Timetable) (rows : List AccountRow) → clock ≤ later → ArePlanned clock plans rows → ArePlanned later plans rows
planned-later clock later plans rows less planned = record {
  begun = (let begun = planned.begun in omega (arith, begun, less));
  told = planned.told;
  room = planned.room;
}

-- a row that comes
pub planned-pushed : (clock : ℕ) (plans : Timetable) (rows : List ServedRow) (row : ServedRow) → ArePlanned clock plans (map row_in rows) → IsTold plans.entries (row_in row) → length rows + 1 ≤ plans.spare → ArePlanned clock plans (map row_in (rows ++ row ∷ []))
planned-pushed clock plans rows row planned own room = record {
  begun = planned.begun;
  told = subst (Each (IsTold plans.entries)) (sym (map_push row_in rows row)) (Each-append (IsTold plans.entries) (map row_in rows) (row_in row ∷ []) planned.told (own, tt));
  room =
      let all = ap idle_in (map_push row_in rows row) ∙ total-push idle_count (map row_in rows) (row_in row) in
      let few = rows-few idle_count rows idle-most in
      let one = idle-most (row_in row) in
      omega (arith, all, few, one, room);
}

-- a row that changes, and is idle only if it was
pub planned-set : (clock : ℕ) (plans : Timetable) (rows : List ServedRow) (i : ℕ) (new d : ServedRow) → ArePlanned clock plans (map row_in rows) → i < length rows → IsTold plans.entries (row_in new) → idle_count (row_in new) ≤ idle_count (row_in (get_or rows i d)) → ArePlanned clock plans (map row_in (set rows i new))
planned-set clock plans rows i new d planned inside own less = record {
  begun = planned.begun;
  told = each-set (IsTold plans.entries) rows i new own planned.told;
  room =
      let all = row-set idle_count rows i new d inside in
      let room = planned.room in
      omega (arith, all, less, room);
}

-- a row that was idle, and whose entry was put, if it has a packet left
pub planned-put : (clock : ℕ) (old new : Timetable) (rows : List ServedRow) (i : ℕ) (row d : ServedRow) → ArePlanned clock old (map row_in rows) → i < length rows → idle_count (row_in (get_or rows i d)) ≡ 1
    → new.clock ≡ old.clock → ((other : AccountRow) → IsTold old.entries other → IsTold new.entries other) → IsTold new.entries (row_in row) → idle_count (row_in row) + old.spare ≤ new.spare + 1 → ArePlanned clock new (map row_in (set rows i row))
planned-put clock old new rows i row d planned inside was same others own spare = record {
  begun = (let begun = planned.begun in omega (arith, begun, same));
  told = each-set (IsTold new.entries) rows i row own (Each-if (IsTold old.entries) (IsTold new.entries) (map row_in rows) others planned.told);
  room =
      let all = row-set idle_count rows i row d inside in
      let room = planned.room in
      omega (arith, all, was, room, spare);
}

-- rows that go
pub planned-removed : (clock : ℕ) (plans : Timetable) (rows : List ServedRow) (i : ℕ) → ArePlanned clock plans (map row_in rows) → ArePlanned clock plans (map row_in (remove rows i))
planned-removed clock plans rows i planned = record {
  begun = planned.begun;
  told = each-without (IsTold plans.entries) rows i planned.told;
  room = (let fewer = row-gone idle_count rows i in let room = planned.room in omega (arith, fewer, room));
}

pub planned-left : (clock : ℕ) (plans : Timetable) (test : AccountRow → Bool) (rows : List AccountRow) → ArePlanned clock plans rows → ArePlanned clock plans (filter test rows)
planned-left clock plans test rows planned = record {
  begun = planned.begun;
  told = Each-filter (IsTold plans.entries) test rows planned.told;
  room = (let fewer = rows-left idle_count test rows in let room = planned.room in omega (arith, fewer, room));
}

-- ---- whether a row is idle

-- with the same packets left it is so, where it is closing as before
pub same-idle : (new old : AccountRow) → new.left ≡ old.left → is_phase new.terms.phase Closing ≡ is_phase old.terms.phase Closing → idle_count new ≤ idle_count old
same-idle new old left closing =
    let same : idle_count new ≡ idle_count old = ap (λ rest. if is_none (first_tick rest) && not (is_phase new.terms.phase Closing) then 1 else 0) left ∙ ap (λ b. if is_none (first_tick old.left) && not b then 1 else 0) closing in
    omega (arith, same)

-- one that isn't closing and has none left is
pub idle-one : (row : AccountRow) → length row.left ≡ 0 → is_phase row.terms.phase Closing ≡ false → idle_count row ≡ 1
idle-one row none apart = ap (λ rest. if is_none (first_tick rest) && not (is_phase row.terms.phase Closing) then 1 else 0) (nil_from_length row.left none) ∙ rw apart refl

-- one that is closing isn't
pub closing-idle : (row : AccountRow) → is_phase row.terms.phase Closing ≡ true → idle_count row ≡ 0
closing-idle row closing = closed (is_none (first_tick row.left)) (is_phase row.terms.phase Closing) closing where
  counted : Bool → ℕ
  counted b = if b then 1 else 0

  closed : (a b : Bool) → b ≡ true → counted (a && not b) ≡ 0
  closed true b is = rw is refl
  closed false b is = refl

-- there is room for the entry of one that is
pub idle-room : (clock : ℕ) (plans : Timetable) (rows : List ServedRow) (i : ℕ) (d : ServedRow) → ArePlanned clock plans (map row_in rows) → i < length rows → idle_count (row_in (get_or rows i d)) ≡ 1 → 1 ≤ plans.spare
idle-room clock plans rows i d planned inside one =
    let at = row-part idle_count rows i d inside in
    let room = planned.room in
    omega (arith, at, one, room)

-- what it plans lies ahead of the calendar
pub plan-ahead : (begun clock gap size count : ℕ) (left : List SourcePacket) → length left ≡ 0 → begun ≤ clock → Each (IsPlannedFrom begun) (left ++ planned_from clock gap size count)
plan-ahead begun clock gap size count left none less =
    subst (λ rest. Each (IsPlannedFrom begun) (rest ++ planned_from clock gap size count)) (sym (nil_from_length left none)) (planned-quiet begun clock gap size count less)
