-- Where keys differ, the row that is found under a key is the only one of it. So a sum over the rows loses its part alone
-- where it is taken out, and changes in its part alone where it moves.
use Rattle.std.proofs.Common.{◌≡◌, ◌≢◌, ℕ, suc, ◌+◌, ◌<◌, ⊎_elim, true, false, eqb, Some, List, [], ◌∷◌, length, get_or, refl, sym, ap, ◌∙◌, arith}
use Rattle.std.proofs.lemmas.Bool.{eqb-true, ne_eqb, cases_Bool}
use Rattle.std.proofs.lemmas.List.{length-map, get_or-map}
use Rattle.std.specs.List.{find}
use Rattle.traffic_contract.specs.Admission.{Admitted, total}
use Rattle.rcsp_admission.specs.Sums.{Held, key_of, admitted_rows, has_key, Holds, HoldsUpTo, put_at, moved, without_key, IsDistinct}

-- the rows after the first differ from each other
pub distinct-later : (held : Held) (rows : List Held) → IsDistinct (held ∷ rows) → IsDistinct rows
distinct-later held rows distinct = record { apart = λ i j d before within. distinct.apart (suc i) (suc j) d (omega arith) (omega arith) }

-- and from it
pub others-differ : (held : Held) (rows : List Held) (key : ℕ) → IsDistinct (held ∷ rows) → held.key ≡ key → (k : ℕ) (d : Held) → k < length rows → (get_or rows k d).key ≢ key
others-differ held rows key distinct same k d within again = distinct.apart 0 (suc k) d (omega arith) (omega arith) (same ∙ sym again)

-- rows of other keys stay where one is taken out
pub without-others : (rows : List Held) (key : ℕ) → ((k : ℕ) (d : Held) → k < length rows → (get_or rows k d).key ≢ key) → without_key rows key ≡ rows
without-others [] key others = refl
without-others (held ∷ rows) key others =
    let other : eqb held.key key ≡ false = ne_eqb held.key key (others 0 held (omega arith)) in
    rw other (ap (λ rest. held ∷ rest) (without-others rows key (λ k d inside. others (suc k) d (omega arith))))

-- and where one moves
pub moved-others : (rows : List Held) (key level : ℕ) → ((k : ℕ) (d : Held) → k < length rows → (get_or rows k d).key ≢ key) → moved rows key level ≡ rows
moved-others [] key level others = refl
moved-others (held ∷ rows) key level others =
    let other : eqb held.key key ≡ false = ne_eqb held.key key (others 0 held (omega arith)) in
    rw other (ap (λ rest. held ∷ rest) (moved-others rows key level (λ k d inside. others (suc k) d (omega arith))))

-- the first row of the key is found; else one of the rows after it
found-first : (held : Held) (rows : List Held) (key : ℕ) (found : Held) → eqb held.key key ≡ true → find (has_key key) (held ∷ rows) ≡ Some found → found ≡ held
found-first held rows key found mine at = (let e = rw mine at at in cc)

found-later : (held : Held) (rows : List Held) (key : ℕ) (found : Held) → eqb held.key key ≡ false → find (has_key key) (held ∷ rows) ≡ Some found → find (has_key key) rows ≡ Some found
found-later held rows key found other at = rw other at at

-- a sum over the rows without that of the key
pub total-without : (f : Admitted → ℕ) (rows : List Held) (key : ℕ) (found : Held) → IsDistinct rows → find (has_key key) rows ≡ Some found → total f (admitted_rows (without_key rows key)) + f found.row ≡ total f (admitted_rows rows)
total-without f [] key found distinct at = cc
total-without f (held ∷ rows) key found distinct at =
    ⊎_elim (λ (mine : eqb held.key key ≡ true).
    let same = found-first held rows key found mine at in
    let rest = without-others rows key (others-differ held rows key distinct (eqb-true held.key key mine)) in
    rw (mine, rest, same) (omega arith))
    (λ (other : eqb held.key key ≡ false).
    let rest = total-without f rows key found (distinct-later held rows distinct) (found-later held rows key found other at) in
    rw other (omega (arith, rest)))
    (cases_Bool (eqb held.key key))

-- a sum over the rows with that of the key at a level
pub total-moved : (f : Admitted → ℕ) (rows : List Held) (key level : ℕ) (found : Held) → IsDistinct rows → find (has_key key) rows ≡ Some found → total f (admitted_rows (moved rows key level)) + f found.row ≡ total f (admitted_rows rows) + f (put_at level found).row
total-moved f [] key level found distinct at = cc
total-moved f (held ∷ rows) key level found distinct at =
    ⊎_elim (λ (mine : eqb held.key key ≡ true).
    let same = found-first held rows key found mine at in
    let rest = moved-others rows key level (others-differ held rows key distinct (eqb-true held.key key mine)) in
    rw (mine, rest, same) (omega arith))
    (λ (other : eqb held.key key ≡ false).
    let rest = total-moved f rows key level found (distinct-later held rows distinct) (found-later held rows key found other at) in
    rw other (omega (arith, rest)))
    (cases_Bool (eqb held.key key))

-- a row that is held at a level or below it is held
pub held-at : (rows : List Held) (key level : ℕ) → HoldsUpTo rows key level → Holds rows key
held-at rows key level (j, held, inside, at, found) =
    (j, omega (arith, length-map rows key_of, inside), get_or-map key_of rows j held key inside ∙ ap key_of at ∙ found.0)
