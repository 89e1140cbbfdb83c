-- The place of a key's row among the rows, and what rows that come, move and go make of it. So an index stays that of the rows.
use Rattle.std.proofs.Common.{◌≡◌, ◌≢◌, ℕ, zero, suc, ◌+◌, ◌<◌, ◌≤◌, true, false, eqb, Some, None, List, [], ◌∷◌, ◌++◌, map, length, get_or, set, ⊎_elim, refl, sym, ap, ◌∙◌, subst, arith}
use Rattle.std.proofs.lemmas.Bool.{cases_Bool, eq-eqb, eqb-true, eqb-false, ne_eqb, lt-ltb, le-ltb}
use Rattle.std.proofs.lemmas.List.{length-map, get_or-map, map-set}
use Rattle.std.specs.List.{find, remove, position_from}
use Rattle.std.specs.Prelude.{nat_eq, if◌then◌else◌, is_some, option_map}
use Rattle.net_units.specs.Numbers.{level_number}
use Rattle.traffic_contract.specs.Contract.{Traffic}
use Rattle.rcsp_admission.specs.Index.{place_in, place_among, place_after, AreByKey, IsIndex}
use Rattle.rcsp_admission.specs.Kept.{held_of}
use Rattle.rcsp_admission.specs.Sums.{Held, row_held, key_of, has_key, Holds, HoldsUpTo, added, put_at, moved, without_key, IsDistinct}
use Rattle.rcsp_admission.specs.declared.key_index.KeyPlace.{KeyPlace}
use Rattle.rcsp_admission.specs.declared.rows.KeptRow.{KeptRow}
use Rattle.rcsp_admission.proofs.OneRowPerKey.{distinct-later, others-differ, without-others, moved-others}
use Rattle.rcsp_admission.proofs.StaysAdmitted.{keys-differ}

held-removed : (rows : List KeptRow) (i : ℕ) → map held_of (remove rows i) ≡ remove (map held_of rows) i
held-removed [] zero = refl
held-removed [] (suc i) = refl
held-removed (row ∷ rows) zero = refl
held-removed (row ∷ rows) (suc i) = ap (λ rest. held_of row ∷ rest) (held-removed rows i)

-- ---- the row at a place

-- the row of the key stands at this place
pub record IsRowAt (key : ℕ) (rows : List Held) (i : ℕ) : Type 0 where
  pub inside : i < length rows
  pub here : (d : Held) → (get_or rows i d).key ≡ key

row-later : (key : ℕ) (held : Held) (rows : List Held) (i : ℕ) → IsRowAt key (held ∷ rows) (suc i) → IsRowAt key rows i
row-later key held rows i at = record { inside = (let inside = at.inside in omega (arith, inside)); here = at.here }

-- the rows before it are of other keys
first-other : (key : ℕ) (held : Held) (rows : List Held) (i : ℕ) → IsDistinct (held ∷ rows) → IsRowAt key (held ∷ rows) (suc i) → eqb held.key key ≡ false
first-other key held rows i distinct at =
    ne_eqb held.key key (λ same. distinct.apart 0 (suc i) held (omega arith) at.inside (same ∙ sym (at.here held)))

-- it is the row that is found under the key
pub at-found : (key : ℕ) (rows : List Held) (i : ℕ) (d : Held) → IsDistinct rows → IsRowAt key rows i → find (has_key key) rows ≡ Some (get_or rows i d)
at-found key [] i d distinct at = (let inside = at.inside in absurd (omega (arith, inside)))
at-found key (held ∷ rows) zero d distinct at = rw (eq-eqb held.key key (at.here held)) refl
at-found key (held ∷ rows) (suc i) d distinct at = rw (first-other key held rows i distinct at) (at-found key rows i d (distinct-later held rows distinct) (row-later key held rows i at))

-- it alone moves with the key
pub at-moved : (key level : ℕ) (rows : List Held) (i : ℕ) (d : Held) → IsDistinct rows → IsRowAt key rows i → set rows i (put_at level (get_or rows i d)) ≡ moved rows key level
at-moved key level [] i d distinct at = (let inside = at.inside in absurd (omega (arith, inside)))
at-moved key level (held ∷ rows) zero d distinct at =
    let own = at.here held in
    rw (eq-eqb held.key key own) (ap (λ rest. put_at level held ∷ rest) (sym (moved-others rows key level (others-differ held rows key distinct own))))
at-moved key level (held ∷ rows) (suc i) d distinct at =
    rw (first-other key held rows i distinct at) (ap (λ rest. held ∷ rest) (at-moved key level rows i d (distinct-later held rows distinct) (row-later key held rows i at)))

-- and it alone goes with the key
pub at-without : (key : ℕ) (rows : List Held) (i : ℕ) → IsDistinct rows → IsRowAt key rows i → remove rows i ≡ without_key rows key
at-without key [] i distinct at = (let inside = at.inside in absurd (omega (arith, inside)))
at-without key (held ∷ rows) zero distinct at =
    let own = at.here held in
    rw (eq-eqb held.key key own) (sym (without-others rows key (others-differ held rows key distinct own)))
at-without key (held ∷ rows) (suc i) distinct at =
    rw (first-other key held rows i distinct at) (ap (λ rest. held ∷ rest) (at-without key rows i (distinct-later held rows distinct) (row-later key held rows i at)))

-- ---- the place that is counted

-- rows of other keys have no place for it
others-none : (key i : ℕ) (rows : List Held) → ((k : ℕ) (d : Held) → k < length rows → (get_or rows k d).key ≢ key) → position_from (has_key key) i rows ≡ None
others-none key i [] others = refl
others-none key i (held ∷ rows) others =
    rw (ne_eqb held.key key (others 0 held (omega arith))) (others-none key (i + 1) rows (λ k d inside. others (suc k) d (omega (arith, inside))))

one-place : (i place : ℕ) → Some i ≡ Some place → i ≡ place
one-place i place same = cc

-- a row of the key stands where it is counted to be
counted-at : (key i place : ℕ) (rows : List Held) → position_from (has_key key) i rows ≡ Some place → (q : ℕ) × (place ≡ i + q) × IsRowAt key rows q
counted-at key i place [] is = (let e = is in cc)
counted-at key i place (held ∷ rows) is =
    ⊎_elim
    (λ (mine : eqb held.key key ≡ true).
    let here = one-place i place (rw mine at is) in
    (0, omega (arith, here), record { inside = omega arith; here = λ d. eqb-true held.key key mine }))
    (λ (other : eqb held.key key ≡ false).
    let rest = counted-at key (i + 1) place rows (rw other at is) in
    (suc rest.0, (let e = rest.1 in omega (arith, e)), record { inside = (let inside = rest.2.inside in omega (arith, inside)); here = rest.2.here }))
    (cases_Bool (eqb held.key key))

pub placed-at : (key place : ℕ) (rows : List Held) → place_among key rows ≡ Some place → IsRowAt key rows place
placed-at key place rows is = (let at = counted-at key 0 place rows is in subst (IsRowAt key rows) (let e = at.1 in omega (arith, e)) at.2)

-- a key that is held and isn't the first row's is held by a later one
held-later : (held : Held) (rows : List Held) (key k : ℕ) → k < length (map key_of (held ∷ rows)) → get_or (map key_of (held ∷ rows)) k key ≡ key → (held.key ≡ key → ⊥) → Holds rows key
held-later held rows key zero inside at other = absurd (other at)
held-later held rows key (suc k) inside at other = (k, omega arith, at)

-- a key that is held has a place
held-counted : (key i : ℕ) (rows : List Held) → Holds rows key → is_some (position_from (has_key key) i rows) ≡ true
held-counted key i [] (k, inside, at) = absurd (omega arith)
held-counted key i (held ∷ rows) (k, inside, at) =
    ⊎_elim (λ (mine : eqb held.key key ≡ true). (rw mine refl))
    (λ (other : eqb held.key key ≡ false). (rw other (held-counted key (i + 1) rows (held-later held rows key k inside at (eqb-false held.key key other)))))
    (cases_Bool (eqb held.key key))

pub held-placed : (key : ℕ) (rows : List Held) → Holds rows key → is_some (place_among key rows) ≡ true
held-placed key rows held = held-counted key 0 rows held

-- and one that isn't has none
pub new-placed : (key : ℕ) (rows : List Held) → (Holds rows key → ⊥) → place_among key rows ≡ None
new-placed key rows new = others-none key 0 rows (keys-differ rows key new)

-- ---- a row more, a row less

-- a new row stands after all
counted-pushed : (other i : ℕ) (rows : List Held) (new : Held) → position_from (has_key new.key) i rows ≡ None → position_from (has_key other) i (rows ++ new ∷ []) ≡ (if nat_eq new.key other then Some (i + length rows) else position_from (has_key other) i rows)
counted-pushed other i [] new none =
    ⊎_elim (λ (mine : nat_eq new.key other ≡ true). (rw mine (ap Some (omega arith)))) (λ (not : nat_eq new.key other ≡ false). (rw not refl)) (cases_Bool (nat_eq new.key other))
counted-pushed other i (held ∷ rows) new none =
    let apart = ne_eqb held.key new.key (λ same. (let e = rw (eq-eqb held.key new.key same) at none in cc)) in
    let rest = counted-pushed other (i + 1) rows new (rw apart at none) in
    ⊎_elim
    (λ (mine : eqb held.key other ≡ true).
    let not : nat_eq new.key other ≡ false = ne_eqb new.key other (λ same. eqb-false held.key new.key apart (eqb-true held.key other mine ∙ sym same)) in
    rw (mine, not) refl)
    (λ (not : eqb held.key other ≡ false).
    rw not (rest ∙ ap (λ n. if nat_eq new.key other then Some n else position_from (has_key other) (i + 1) rows) (omega arith)))
    (cases_Bool (eqb held.key other))

-- rows that are counted from one place before stand one place before
counted-before : (key i left : ℕ) (rows : List Held) → left ≤ i → position_from (has_key key) i rows ≡ option_map (place_after left) (position_from (has_key key) (i + 1) rows)
counted-before key i left [] from = refl
counted-before key i left (held ∷ rows) from =
    ⊎_elim (λ (mine : eqb held.key key ≡ true). (rw (mine, lt-ltb left (i + 1) (omega (arith, from))) (ap Some (omega arith))))
    (λ (other : eqb held.key key ≡ false). (rw other (counted-before key (i + 1) left rows (omega (arith, from)))))
    (cases_Bool (eqb held.key key))

-- those before the row that goes stay, and those after it move up
counted-without : (key other i q : ℕ) (rows : List Held) → IsDistinct rows → IsRowAt key rows q → position_from (has_key other) i (remove rows q) ≡ (if nat_eq key other then None else option_map (place_after (i + q)) (position_from (has_key other) i rows))
counted-without key other i q [] distinct at = (let inside = at.inside in absurd (omega (arith, inside)))
counted-without key other i zero (held ∷ rows) distinct at =
    let own = at.here held in
    ⊎_elim
    (λ (mine : nat_eq key other ≡ true).
    rw mine (others-none other i rows (λ k d inside same. others-differ held rows key distinct own k d inside (same ∙ sym (eqb-true key other mine)))))
    (λ (not : nat_eq key other ≡ false).
    let apart = ne_eqb held.key other (λ same. eqb-false key other not (sym own ∙ same)) in
    rw (not, apart) (counted-before other i (i + 0) rows (omega arith)))
    (cases_Bool (nat_eq key other))
counted-without key other i (suc q) (held ∷ rows) distinct at =
    let first = first-other key held rows q distinct at in
    let rest = counted-without key other (i + 1) q rows (distinct-later held rows distinct) (row-later key held rows q at) in
    ⊎_elim
    (λ (mine : eqb held.key other ≡ true).
    let not : nat_eq key other ≡ false = ne_eqb key other (λ same. eqb-false held.key key first (eqb-true held.key other mine ∙ sym same)) in
    rw (mine, not, le-ltb (i + suc q) i (omega arith)) refl)
    (λ (not : eqb held.key other ≡ false).
    rw not (rest ∙ ap (λ n. if nat_eq key other then None else option_map (place_after n) (position_from (has_key other) (i + 1) rows)) (omega arith)))
    (cases_Bool (eqb held.key other))

-- a row that moves keeps its place
counted-moved : (key other level i : ℕ) (rows : List Held) → position_from (has_key other) i (moved rows key level) ≡ position_from (has_key other) i rows
counted-moved key other level i [] = refl
counted-moved key other level i (held ∷ rows) =
    let rest = counted-moved key other level (i + 1) rows in
    ⊎_elim (λ (mine : eqb held.key key ≡ true). (rw (mine, rest) refl)) (λ (not : eqb held.key key ≡ false). (rw (not, rest) refl)) (cases_Bool (eqb held.key key))

-- ---- the index of the rows

pub index-none : (rows : List Held) (places : List KeyPlace) → rows ≡ [] → places ≡ [] → IsIndex rows places
index-none rows places none empty = rw (none, empty) (record { by_key = tt; each = λ key. refl })

pub index-added : (rows : List Held) (before after : List KeyPlace) (key : ℕ) (contract : Traffic) (level : ℕ) → IsIndex rows before → (Holds rows key → ⊥) → AreByKey 0 after → ((other : ℕ) → place_in other after ≡ (if nat_eq key other then Some (length rows) else place_in other before)) → IsIndex (added rows key contract level) after
index-added rows before after key contract level index new sorted put = record {
  by_key = sorted;
  each = λ other.
      put other ∙ ap (λ place. if nat_eq key other then Some (length rows) else place) (index.each other)
      ∙ ap (λ n. if nat_eq key other then Some n else place_among other rows) (omega arith)
      ∙ sym (counted-pushed other 0 rows (row_held key contract level) (new-placed key rows new));
}

pub index-moved : (rows : List Held) (places : List KeyPlace) (key level : ℕ) → IsIndex rows places → IsIndex (moved rows key level) places
index-moved rows places key level index = record { by_key = index.by_key; each = λ other. index.each other ∙ sym (counted-moved key other level 0 rows) }

-- the row of the key stands at the place that the index has for it
index-leads : (rows : List Held) (places : List KeyPlace) (key place : ℕ) → IsIndex rows places → place_in key places ≡ Some place → IsRowAt key rows place
index-leads rows places key place index own = placed-at key place rows (sym (index.each key) ∙ own)

pub index-without : (rows : List Held) (before after : List KeyPlace) (key place : ℕ) → IsIndex rows before → IsDistinct rows → place_in key before ≡ Some place → AreByKey 0 after → ((other : ℕ) → place_in other after ≡ (if nat_eq key other then None else option_map (place_after place) (place_in other before))) → IsIndex (without_key rows key) after
index-without rows before after key place index distinct own sorted left =
    let at = index-leads rows before key place index own in
    record {
      by_key = sorted;
      each = λ other.
          left other ∙ ap (λ was. if nat_eq key other then None else option_map (place_after place) was) (index.each other)
          ∙ ap (λ n. if nat_eq key other then None else option_map (place_after n) (place_among other rows)) (omega arith)
          ∙ sym (counted-without key other 0 place rows distinct at)
          ∙ ap (place_among other) (at-without key rows place distinct at);
    }

-- ---- the rows as they are kept

-- a key that is held is found
pub index-holds : (rows : List KeptRow) (places : List KeyPlace) (key : ℕ) → IsIndex (map held_of rows) places → Holds (map held_of rows) key → is_some (place_in key places) ≡ true
index-holds rows places key index held = ap is_some (index.each key) ∙ held-placed key (map held_of rows) held

-- its place is one of theirs
pub index-inside : (rows : List KeptRow) (places : List KeyPlace) (key place : ℕ) → IsIndex (map held_of rows) places → place_in key places ≡ Some place → place < length rows
index-inside rows places key place index own = (let inside = (index-leads (map held_of rows) places key place index own).inside in omega (arith, inside, length-map rows held_of))

row-read : (rows : List KeptRow) (place : ℕ) (row : KeptRow) → place < length rows → row ≡ get_or rows place row → get_or (map held_of rows) place (held_of row) ≡ held_of row
row-read rows place row inside at = get_or-map held_of rows place row (held_of row) inside ∙ ap held_of (sym at)

-- the row there is that of the key
pub index-found : (rows : List KeptRow) (places : List KeyPlace) (key place : ℕ) (row : KeptRow) → IsDistinct (map held_of rows) → IsIndex (map held_of rows) places → place_in key places ≡ Some place → row ≡ get_or rows place row → find (has_key key) (map held_of rows) ≡ Some (held_of row)
index-found rows places key place row distinct index own at =
    at-found key (map held_of rows) place (held_of row) distinct (index-leads (map held_of rows) places key place index own)
    ∙ ap Some (row-read rows place row (index-inside rows places key place index own) at)

-- where it is put at a level, the row of the key has moved
pub index-put : (rows : List KeptRow) (places : List KeyPlace) (key place level : ℕ) (row new : KeptRow) → IsDistinct (map held_of rows) → IsIndex (map held_of rows) places → place_in key places ≡ Some place → row ≡ get_or rows place row → held_of new ≡ put_at level (held_of row) → map held_of (set rows place new) ≡ moved (map held_of rows) key level
index-put rows places key place level row new distinct index own at put =
    map-set held_of rows place new
    ∙ ap (set (map held_of rows) place) (put ∙ ap (put_at level) (sym (row-read rows place row (index-inside rows places key place index own) at)))
    ∙ at-moved key level (map held_of rows) place (held_of row) distinct (index-leads (map held_of rows) places key place index own)

-- where it is taken out, the rows of the other keys are left
pub index-out : (rows : List KeptRow) (places : List KeyPlace) (key place : ℕ) → IsDistinct (map held_of rows) → IsIndex (map held_of rows) places → place_in key places ≡ Some place → map held_of (remove rows place) ≡ without_key (map held_of rows) key
index-out rows places key place distinct index own =
    held-removed rows place ∙ at-without key (map held_of rows) place distinct (index-leads (map held_of rows) places key place index own)

-- ---- what a look-up tells

counted-unfound : (key i : ℕ) (rows : List Held) → position_from (has_key key) i rows ≡ None → find (has_key key) rows ≡ None
counted-unfound key i [] none = refl
counted-unfound key i (held ∷ rows) none =
    ⊎_elim (λ (mine : eqb held.key key ≡ true). absurd (let e = rw mine at none in cc)) (λ (other : eqb held.key key ≡ false). (rw other (counted-unfound key (i + 1) rows (rw other at none)))) (cases_Bool (eqb held.key key))

-- a key without a place has no row
pub index-unfound : (rows : List Held) (places : List KeyPlace) (key : ℕ) → IsIndex rows places → place_in key places ≡ None → find (has_key key) rows ≡ None
index-unfound rows places key index none = counted-unfound key 0 rows (sym (index.each key) ∙ none)

pub index-unheld : (rows : List Held) (places : List KeyPlace) (key : ℕ) → IsIndex rows places → place_in key places ≡ None → Holds rows key → ⊥
index-unheld rows places key index none held = (let is = held-placed key rows held in let same = sym (index.each key) ∙ none in let e = rw same at is in cc)

-- and one with a place is held, at the level of the row there or below any larger one
pub index-upto : (rows : List KeptRow) (places : List KeyPlace) (key place : ℕ) (row : KeptRow) (m : ℕ) → IsIndex (map held_of rows) places → place_in key places ≡ Some place → row ≡ get_or rows place row → level_number row.level ≤ m → HoldsUpTo (map held_of rows) key m
index-upto rows places key place row m index own at upto =
    let leads = index-leads (map held_of rows) places key place index own in
    let read = row-read rows place row (index-inside rows places key place index own) at in
    (place, held_of row, leads.inside, read, (sym (ap key_of read) ∙ leads.here (held_of row), upto))
