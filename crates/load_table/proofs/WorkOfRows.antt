-- The sums over the rows of a link, one row after another, and the windows that are tried for the least one.
use Rattle.std.proofs.Common.{◌≡◌, ℕ, ◌+◌, ◌<◌, ◌≤◌, List, [], ◌∷◌, ◌++◌, length, get_or, take, sym, ap, ◌∙◌, subst, arith}
use Rattle.std.proofs.lemmas.List.{map_push, take_all, take_more}
use Rattle.std.proofs.lemmas.List.Elements.{All-push}
use Rattle.std.specs.List.{All}
use Rattle.traffic_contract.specs.Admission.{Admitted, load, total, work_up_to}
use Rattle.traffic_contract.proofs.AdmissionTest.{total-push}
use Rattle.traffic_contract.proofs.LoadLimits.{load-mono}
use Rattle.traffic_contract.specs.Contract.{IsContract}
use Rattle.load_table.specs.Loads.{admitted_in, load_in, rows_in, server_of, HasContract}
use Rattle.load_table.specs.declared.link.LinkNumbers.{LinkNumbers}
use Rattle.load_table.specs.declared.link.LinkRow.{LinkRow}

-- one row more adds its part
pub total-more : (f : Admitted → ℕ) (rows : List LinkRow) (i : ℕ) (row : LinkRow) → i < length rows → row ≡ get_or rows i row → total f (rows_in (take (i + 1) rows)) ≡ total f (rows_in (take i rows)) + f (admitted_in row)
total-more f rows i row inside is =
    let front : take (i + 1) rows ≡ take i rows ++ row ∷ [] = take_more rows i row inside ∙ ap (λ (r : LinkRow). take i rows ++ r ∷ []) (sym is) in
    ap (λ rs. total f (rows_in rs)) front ∙ ap (total f) (map_push admitted_in (take i rows) row) ∙ total-push f (rows_in (take i rows)) (admitted_in row)

pub part-more : (f : LinkRow → ℕ) (rows : List LinkRow) (i : ℕ) (row : LinkRow) → i < length rows → row ≡ get_or rows i row → total f (take (i + 1) rows) ≡ total f (take i rows) + f row
part-more f rows i row inside is =
    let front : take (i + 1) rows ≡ take i rows ++ row ∷ [] = take_more rows i row inside ∙ ap (λ (r : LinkRow). take i rows ++ r ∷ []) (sym is) in
    ap (total f) front ∙ total-push f (take i rows) row

-- with the blocking, it is the load
pub load-sum : (link : LinkNumbers) (rows : List LinkRow) (m w blocking work : ℕ) → blocking ≡ link.blocking → work ≡ total (work_up_to link.rate m w) (rows_in rows) → blocking + work ≡ load_in link rows m w
unfolding load
load-sum link rows m w blocking work same is = ap (λ b. b + work) same ∙ ap (λ x. link.blocking + x) is

-- ---- each row has a contract

pub contracts-more : (rows : List LinkRow) (i : ℕ) (row : LinkRow) → i < length rows → row ≡ get_or rows i row → IsContract row.contract → All HasContract (rows_in (take i rows)) → All HasContract (rows_in (take (i + 1) rows))
contracts-more rows i row inside is valid so_far =
    let front : take (i + 1) rows ≡ take i rows ++ row ∷ [] = take_more rows i row inside ∙ ap (λ (r : LinkRow). take i rows ++ r ∷ []) (sym is) in
    let more : rows_in (take (i + 1) rows) ≡ rows_in (take i rows) ++ admitted_in row ∷ [] = ap rows_in front ∙ map_push admitted_in (take i rows) row in
    subst (All HasContract) (sym more) (All-push HasContract (rows_in (take i rows)) (admitted_in row) so_far valid)

pub contracts-all : (rows : List LinkRow) (i : ℕ) → length rows ≤ i → All HasContract (rows_in (take i rows)) → All HasContract (rows_in rows)
contracts-all rows i past all = subst (λ rs. All HasContract (rows_in rs)) (take_all i rows past) all

-- ---- windows that are tried

-- no window below what one needs holds the load
pub needs-more : (link : LinkNumbers) (rows : List LinkRow) (m window needed : ℕ) → All HasContract (rows_in rows) → needed ≡ load_in link rows m window → ((v : ℕ) → 1 ≤ v → load_in link rows m v ≤ v → window ≤ v)
    → (v : ℕ) → 1 ≤ v → load_in link rows m v ≤ v → needed ≤ v
needs-more link rows m window needed contracts is least v some holds =
    let low = least v some holds in
    let more = load-mono (server_of link []) (rows_in rows) m window v contracts low in
    omega (arith, is, more, holds)
