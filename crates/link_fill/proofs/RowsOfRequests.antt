-- The rows of requests, and what they keep, one request after another; and rows with more like one behind them.
use Rattle.std.proofs.Common.{◌≡◌, ℕ, ◌+◌, ◌<◌, ◌≤◌, suc, Option, None, Some, List, [], ◌∷◌, ◌++◌, length, get_or, take, replicate, sym, ap, ◌∙◌, arith}
use Rattle.std.specs.List.{cons_option}
use Rattle.std.proofs.lemmas.List.{take_more, take-replicate}
use Rattle.std.proofs.Math.Seq.{take-append-add}
use Rattle.traffic_contract.specs.Admission.{total}
use Rattle.traffic_contract.proofs.AdmissionTest.{total-push}
use Rattle.load_table.specs.declared.link.LinkRow.{LinkRow}
use Rattle.link_fill.specs.Fills.{held_in, kept_by, row_of, with_more}
use Rattle.link_fill.specs.declared.crossing.Crossing.{Crossing}

-- ---- one request more

pub kept-more : (crossings : List Crossing) (i : ℕ) (one : Crossing) → i < length crossings → one ≡ get_or crossings i one → total kept_by (take (i + 1) crossings) ≡ total kept_by (take i crossings) + kept_by one
kept-more crossings i one inside is =
    let front : take (i + 1) crossings ≡ take i crossings ++ one ∷ [] = take_more crossings i one inside ∙ ap (λ (c : Crossing). take i crossings ++ c ∷ []) (sym is) in
    ap (total kept_by) front ∙ total-push kept_by (take i crossings) one

-- ---- no more are accepted than are asked for

pub cons-few : (row : Option LinkRow) (rows : List LinkRow) (n : ℕ) → length rows ≤ n → length (cons_option row rows) ≤ suc n
cons-few None rows n few = omega (arith, few)
cons-few (Some row) rows n few = omega (arith, few)

pub held-few : (crossings : List Crossing) → length (held_in crossings) ≤ length crossings
held-few [] = omega arith
held-few (one ∷ crossings) = cons-few (row_of one) (held_in crossings) (length crossings) (held-few crossings)

-- ---- more rows like one

-- the front of them
pub front-of-more : (rows : List LinkRow) (row : LinkRow) (n most : ℕ) → n ≤ most → take (length rows + n) (with_more rows row most) ≡ with_more rows row n
front-of-more rows row n most within = take-append-add rows (replicate most row) n ∙ ap (λ more. rows ++ more) (take-replicate n most row within)
