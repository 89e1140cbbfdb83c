-- The calendar of holds goes with the rows: those that come, change and go, and those whose entries are taken.
use Rattle.std.proofs.Common.{◌≡◌, ℕ, suc, ◌+◌, ◌<◌, ◌≤◌, Bool, true, false, not, ◌&&◌, ◌||◌, ◌⊎◌, inl, inr, ⊎_elim, List, [], ◌∷◌, ◌++◌, length, map, get_or, set, refl, sym, ap, ◌∙◌, subst, All, arith}
use Rattle.std.proofs.lemmas.Bool.{cases_Bool, cases_lt, eq-eqb, eqb-true, le-leb, leb-true, lt-leb}
use Rattle.std.proofs.lemmas.List.{map_push, get_or_default}
use Rattle.std.proofs.lemmas.List.Folds.{list_any_none}
use Rattle.link_server.proofs.Words.{remove, if◌then◌else◌, filter, nat_eq, nat_le, channel_number, last_bound, ChanNo, newest, Closing, AccountRow, account_stays, Each, is_phase, Entry, Timetable, TakesDue, row_in, IsAbsent, IsPlaceOf, ServedRow}
use Rattle.traffic_contract.proofs.AdmissionTest.{total-push}
use Rattle.link_steps.specs.Hold.{hold_ended}
use Rattle.link_steps.proofs.SearchAndFilter.{Each-append, Each-if, Each-both, filter-all}
use Rattle.link_server.specs.Holds.{is_open, open_count, open_in, tells_end, IsListed, AreListed, HasEnded, StaysIfOf}
use Rattle.link_server.specs.Index.{channel_in, channels_in, IsIndex}
use Rattle.std.proofs.lemmas.List.Edits.{length-remove, get_or-remove_below, get_or-remove_above}
use Rattle.link_server.proofs.Calendars.Holds.{listed-without}
use Rattle.link_server.proofs.Calendars.Expiry.{each-without, each-set}
use Rattle.link_server.proofs.RowsOfTable.Totals.{rows-few, row-part, row-set, row-gone}
use Rattle.link_server.proofs.RowsOfTable.Index.{one-place}

-- ---- which rows an entry that is due tells of

-- what holds of the row at each place holds of each
pub each-place : (P : AccountRow → Type 0) (rows : List ServedRow) → ((k : ℕ) (d : ServedRow) → k < length rows → P (row_in (get_or rows k d))) → Each P (map row_in rows)
each-place P [] at = tt
each-place P (row ∷ rows) at = (at 0 row (omega arith), each-place P rows (λ k d inside. at (suc k) d (omega (arith, inside))))

-- no row is that channel's, so none of its is due
pub absent-stays : (bounds : List ℕ) (clock : ℕ) (chan : ChanNo) (key : ℕ) (rows : List ServedRow) → channel_number chan ≡ key → IsAbsent chan rows → Each (StaysIfOf bounds clock key) (map row_in rows)
absent-stays bounds clock chan key rows number absent =
    each-place (StaysIfOf bounds clock key) rows
    (λ k d inside same. absurd (let f : false ≡ true = sym (absent k d inside) ∙ eq-eqb (channel_number (get_or rows k d).chan) (channel_number chan) (same ∙ sym number) in cc))

-- the row of the channel stays
pub place-stays : (bounds : List ℕ) (clock : ℕ) (chan : ChanNo) (key i : ℕ) (rows : List ServedRow) (index keys : List ℕ) (row : ServedRow) → channel_number chan ≡ key → IsIndex index keys (channels_in rows) → IsPlaceOf chan rows i → row ≡ get_or rows i row → account_stays bounds clock (row_in row) ≡ true → Each (StaysIfOf bounds clock key) (map row_in rows)
place-stays bounds clock chan key i rows index keys row number is place at stays =
    each-place (StaysIfOf bounds clock key) rows
    (λ k d inside same.
    (let own = eqb-true (channel_in (get_or rows i row)) (channel_number chan) (place.here row) in
    let here = one-place index keys rows k i d row is inside place.inside (same ∙ sym number ∙ sym own) in
    subst (λ r. account_stays bounds clock (row_in r) ≡ true) (at ∙ ap (λ n. get_or rows n row) (sym here) ∙ get_or_default rows k row d inside) stays))

-- once the row of the channel is taken out, no row is the channel's
pub others-stay : (bounds : List ℕ) (clock key i : ℕ) (rows : List ServedRow) (index keys : List ℕ) (d : ServedRow) → IsIndex index keys (channels_in rows) → HasEnded bounds clock key rows i → Each (StaysIfOf bounds clock key) (map row_in (remove rows i))
others-stay bounds clock key i rows index keys d is ended =
    each-place (StaysIfOf bounds clock key) (remove rows i) (λ k e inside same. absurd (other k e inside same (cases_lt k i))) where
      fewer : length (remove rows i) + 1 ≡ length rows
      fewer = (let less = length-remove rows i ended.inside in let inside = ended.inside in omega (arith, less, inside))

      other : (k : ℕ) (e : ServedRow) → k < length (remove rows i) → channel_in (get_or (remove rows i) k e) ≡ key → (k < i) ⊎ (i ≤ k) → ⊥
      other k e inside same (inl below) =
          let one = one-place index keys rows k i e d is (omega (arith, inside, fewer)) ended.inside (ap channel_in (sym (get_or-remove_below rows i e k below ended.inside)) ∙ same ∙ sym (ended.key_is d)) in
          omega (arith, one, below)
      other k e inside same (inr above) =
          let one = one-place index keys rows (k + 1) i e d is (omega (arith, inside, fewer)) ended.inside (ap channel_in (sym (get_or-remove_above rows i e k above ended.inside)) ∙ same ∙ sym (ended.key_is d)) in
          omega (arith, one, above)

-- ---- an entry is taken

-- a row that stays in a tick stays in those before it
held-on : (a b c d e : Bool) → (e ≡ true → d ≡ true) → not (a && (b || (c && d))) ≡ true → not (a && (b || (c && e))) ≡ true
held-on false b c d e more is = refl
held-on true true c d e more is = is
held-on true false false d e more is = refl
held-on true false true d false more is = refl
held-on true false true d true more is = rw (more refl) at is

stays-before : (bounds : List ℕ) (tick clock : ℕ) (row : AccountRow) → tick ≤ clock → account_stays bounds clock row ≡ true → account_stays bounds tick row ≡ true
unfolding hold_ended
stays-before bounds tick clock row less =
    held-on (is_phase row.terms.phase Closing) (nat_eq row.terms.count 0) (nat_eq row.taken row.terms.count) (nat_le (newest row.recent + last_bound bounds) clock) (nat_le (newest row.recent + last_bound bounds) tick)
    (λ by. le-leb (newest row.recent + last_bound bounds) clock (let at = leb-true (newest row.recent + last_bound bounds) tick by in omega (arith, at, less)))

-- so the entry tells the end of none of the rows that are left
tells-none : (bounds : List ℕ) (clock tick key t : ℕ) (row : AccountRow) → tick ≤ clock → StaysIfOf bounds clock key row → tells_end bounds t row (tick, key) ≡ false
tells-none bounds clock tick key t row due stays =
    ⊎_elim (λ (same : nat_eq key (channel_number row.terms.chan) ≡ true).
    rw (stays-before bounds tick clock row due (stays (sym (eqb-true key (channel_number row.terms.chan) same)))) (both (nat_eq key (channel_number row.terms.chan)) (nat_le tick t)))
    (λ (other : nat_eq key (channel_number row.terms.chan) ≡ false). rw other refl)
    (cases_Bool (nat_eq key (channel_number row.terms.chan))) where
      both : (a b : Bool) → (a && (b && false)) ≡ false
      both false b = refl
      both true false = refl
      both true true = refl

pub due-taken : (bounds : List ℕ) (clock key : ℕ) (old new : Timetable) (rows : List AccountRow) → TakesDue old.entries new.entries clock key → new.spare ≡ old.spare + 1 → new.clock ≡ clock → Each (IsListed bounds clock old.entries) rows → open_in rows ≤ old.spare → Each (StaysIfOf bounds clock key) rows → AreListed bounds clock new rows
due-taken bounds clock key old new rows due spare begun listed room stays = record {
  begun = omega (arith, begun);
  listed =
      subst (λ entries. Each (IsListed bounds clock entries) rows) (sym due.left)
      (Each-if (λ row. IsListed bounds clock old.entries row × StaysIfOf bounds clock key row) (IsListed bounds clock (due.before ++ due.after)) rows
      (λ row both. listed-without bounds clock due.before due.after (due.tick, key) row (λ t. tells-none bounds clock due.tick key t row due.due both.1) (subst (λ entries. IsListed bounds clock entries row) due.was both.0))
      (Each-both (IsListed bounds clock old.entries) (StaysIfOf bounds clock key) rows listed stays));
  room = omega (arith, room, spare);
}

-- where none is due, every row stays
stays-on : (bounds : List ℕ) (clock : ℕ) (entries : List Entry) (row : AccountRow) → All (λ entry. clock < entry.0) entries → IsListed bounds clock entries row → account_stays bounds clock row ≡ true
stays-on bounds clock entries row later listed =
    ⊎_elim (λ (is : account_stays bounds clock row ≡ true). is)
    (λ (gone : account_stays bounds clock row ≡ false). absurd (let f : false ≡ true = sym (list_any_none (tells_end bounds clock row) entries (λ k d inside. not-yet (get_or entries k d) (later k d inside))) ∙ listed.told clock (omega arith) gone in cc))
    (cases_Bool (account_stays bounds clock row)) where
      none : (a : Bool) → (a && false) ≡ false
      none true = refl
      none false = refl

      not-yet : (entry : Entry) → clock < entry.0 → tells_end bounds clock row entry ≡ false
      not-yet entry past = rw (lt-leb entry.0 clock past) (none (nat_eq entry.1 (channel_number row.terms.chan)))

pub all-stay : (bounds : List ℕ) (clock : ℕ) (entries : List Entry) (rows : List AccountRow) → All (λ entry. clock < entry.0) entries → Each (IsListed bounds clock entries) rows → filter (account_stays bounds clock) rows ≡ rows
all-stay bounds clock entries rows later listed = filter-all (account_stays bounds clock) rows (Each-if (IsListed bounds clock entries) (λ row. account_stays bounds clock row ≡ true) rows (λ row is. stays-on bounds clock entries row later is) listed)

-- ---- rows that come, change and go

-- the rows that have yet to get an entry
open-most : (row : AccountRow) → open_count row ≤ 1
open-most row = most (is_open row) where
  most : (b : Bool) → (if b then 1 else 0) ≤ 1
  most true = omega arith
  most false = omega arith

-- an open row counts as one
pub open-one : (row : AccountRow) → is_open row ≡ true → open_count row ≡ 1
open-one row is = rw is refl

-- room for an open row
pub open-room : (bounds : List ℕ) (clock : ℕ) (holds : Timetable) (rows : List ServedRow) (i : ℕ) (d : ServedRow) → AreListed bounds clock holds (map row_in rows) → i < length rows → is_open (row_in (get_or rows i d)) ≡ true → 1 ≤ holds.spare
open-room bounds clock holds rows i d listed inside is =
    let at = row-part open_count rows i d inside in
    let one = open-one (row_in (get_or rows i d)) is in
    let room = listed.room in
    omega (arith, at, one, room)

-- more room in the calendar
pub listed-reserved : (bounds : List ℕ) (clock : ℕ) (old new : Timetable) (rows : List AccountRow) → new ≡ record old { spare = new.spare } → old.spare ≤ new.spare → AreListed bounds clock old rows → AreListed bounds clock new rows
listed-reserved bounds clock old new rows same grows listed = record {
  begun = (let begun = listed.begun in let clock_is : new.clock ≡ old.clock = ap (λ s. s.clock) same in omega (arith, begun, clock_is));
  listed = subst (λ entries. Each (IsListed bounds clock entries) rows) (sym (ap (λ s. s.entries) same)) listed.listed;
  room = (let room = listed.room in omega (arith, room, grows));
}

-- a row that comes
pub listed-pushed : (bounds : List ℕ) (clock : ℕ) (holds : Timetable) (rows : List ServedRow) (row : ServedRow) → AreListed bounds clock holds (map row_in rows) → IsListed bounds clock holds.entries (row_in row) → length rows + 1 ≤ holds.spare → AreListed bounds clock holds (map row_in (rows ++ row ∷ []))
listed-pushed bounds clock holds rows row listed own room = record {
  begun = listed.begun;
  listed = subst (Each (IsListed bounds clock holds.entries)) (sym (map_push row_in rows row)) (Each-append (IsListed bounds clock holds.entries) (map row_in rows) (row_in row ∷ []) listed.listed (own, tt));
  room =
      let all = ap open_in (map_push row_in rows row) ∙ total-push open_count (map row_in rows) (row_in row) in
      let few = rows-few open_count rows open-most in
      let one = open-most (row_in row) in
      omega (arith, all, few, one, room);
}

-- a row that changes, and is open only if it was
pub listed-set : (bounds : List ℕ) (clock : ℕ) (holds : Timetable) (rows : List ServedRow) (i : ℕ) (new d : ServedRow) → AreListed bounds clock holds (map row_in rows) → i < length rows → IsListed bounds clock holds.entries (row_in new) → is_open (row_in (get_or rows i d)) ≡ true → AreListed bounds clock holds (map row_in (set rows i new))
listed-set bounds clock holds rows i new d listed inside own is = record {
  begun = listed.begun;
  listed = each-set (IsListed bounds clock holds.entries) rows i new own listed.listed;
  room =
      let all = row-set open_count rows i new d inside in
      let was = open-one (row_in (get_or rows i d)) is in
      let one = open-most (row_in new) in
      let room = listed.room in
      omega (arith, all, was, one, room);
}

-- a row whose entry was put, if no packet is left to wait for
pub listed-put : (bounds : List ℕ) (clock : ℕ) (old new : Timetable) (rows : List ServedRow) (i : ℕ) (row d : ServedRow) → AreListed bounds clock old (map row_in rows) → i < length rows → is_open (row_in (get_or rows i d)) ≡ true
    → new.clock ≡ old.clock → ((other : AccountRow) → IsListed bounds clock old.entries other → IsListed bounds clock new.entries other) → IsListed bounds clock new.entries (row_in row) → open_count (row_in row) + old.spare ≤ new.spare + 1 → AreListed bounds clock new (map row_in (set rows i row))
listed-put bounds clock old new rows i row d listed inside is same others own spare = record {
  begun = (let begun = listed.begun in omega (arith, begun, same));
  listed = each-set (IsListed bounds clock new.entries) rows i row own (Each-if (IsListed bounds clock old.entries) (IsListed bounds clock new.entries) (map row_in rows) others listed.listed);
  room =
      let all = row-set open_count rows i row d inside in
      let was = open-one (row_in (get_or rows i d)) is in
      let room = listed.room in
      omega (arith, all, was, room, spare);
}

-- a row that goes
pub listed-removed : (bounds : List ℕ) (clock : ℕ) (holds : Timetable) (rows : List ServedRow) (i : ℕ) → AreListed bounds clock holds (map row_in rows) → AreListed bounds clock holds (map row_in (remove rows i))
listed-removed bounds clock holds rows i listed = record {
  begun = listed.begun;
  listed = each-without (IsListed bounds clock holds.entries) rows i listed.listed;
  room = (let fewer = row-gone open_count rows i in let room = listed.room in omega (arith, fewer, room));
}
