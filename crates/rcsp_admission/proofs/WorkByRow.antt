-- The work of the rows one by one.
use Rattle.std.proofs.Common.{◌≡◌, ℕ, ◌+◌, ◌<◌, ◌≤◌, List, [], ◌∷◌, ◌++◌, length, map, get_or, take, drop, sym, ap, ◌∙◌, arith}
use Rattle.std.proofs.lemmas.List.{take_more, take-append-drop, map-append, map_push}
use Rattle.traffic_contract.specs.Admission.{Admitted, total}
use Rattle.traffic_contract.proofs.AdmissionTest.{total-append, total-push}
use Rattle.rcsp_admission.specs.Sums.{admitted_row, admitted_rows}
use Rattle.rcsp_admission.specs.Kept.{held_of, kept_rows}
use Rattle.rcsp_admission.specs.declared.rows.KeptRow.{KeptRow}

-- one row more adds its part
pub total-take_more : (f : Admitted → ℕ) (rows : List KeptRow) (i : ℕ) (row : KeptRow) → i < length rows → row ≡ get_or rows i row → total f (kept_rows (take (i + 1) rows)) ≡ total f (kept_rows (take i rows)) + f (admitted_row (held_of row))
total-take_more f rows i row h e =
    let front : take (i + 1) rows ≡ take i rows ++ row ∷ [] = take_more rows i row h ∙ ap (λ r. take i rows ++ r ∷ []) (sym e) in
    let held : map held_of (take (i + 1) rows) ≡ map held_of (take i rows) ++ held_of row ∷ [] = ap (map held_of) front ∙ map_push held_of (take i rows) row in
    let kept : kept_rows (take (i + 1) rows) ≡ kept_rows (take i rows) ++ admitted_row (held_of row) ∷ [] = ap admitted_rows held ∙ map_push admitted_row (map held_of (take i rows)) (held_of row) in
    ap (total f) kept ∙ total-push f (kept_rows (take i rows)) (admitted_row (held_of row))

-- and so does a row after all
pub total-pushed : (f : Admitted → ℕ) (rows after : List KeptRow) (row : KeptRow) → after ≡ rows ++ row ∷ [] → total f (kept_rows after) ≡ total f (kept_rows rows) + f (admitted_row (held_of row))
total-pushed f rows after row pushed =
    let held : map held_of after ≡ map held_of rows ++ held_of row ∷ [] = ap (map held_of) pushed ∙ map_push held_of rows row in
    let kept : kept_rows after ≡ kept_rows rows ++ admitted_row (held_of row) ∷ [] = ap admitted_rows held ∙ map_push admitted_row (map held_of rows) (held_of row) in
    ap (total f) kept ∙ total-push f (kept_rows rows) (admitted_row (held_of row))

-- the first rows add no more than all
pub total-take-le : (f : Admitted → ℕ) (rows : List KeptRow) (i : ℕ) → total f (kept_rows (take i rows)) ≤ total f (kept_rows rows)
total-take-le f rows i =
    let held : map held_of rows ≡ map held_of (take i rows) ++ map held_of (drop i rows) = ap (map held_of) (sym (take-append-drop i rows)) ∙ map-append held_of (take i rows) (drop i rows) in
    let kept : kept_rows rows ≡ kept_rows (take i rows) ++ kept_rows (drop i rows) = ap admitted_rows held ∙ map-append admitted_row (map held_of (take i rows)) (map held_of (drop i rows)) in
    omega (arith, ap (total f) kept, total-append f (kept_rows (take i rows)) (kept_rows (drop i rows)))
