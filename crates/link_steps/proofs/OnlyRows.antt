-- No two rows of an admissible history, held or gone, have one lead. So each packet of a channel has one row alone.
use Rattle.std.proofs.Common.{◌≡◌, ℕ, suc, ◌≤◌, Bool, List, [], ◌∷◌, ◌++◌, length, inl, inr, refl, sym, ap, ◌∙◌, arith}
use Rattle.std.proofs.lemmas.Bool.{cases_Bool, eq-eqb, eqb-true}
use Rattle.std.specs.Prelude.{filter, nat_eq}
use Rattle.link_steps.specs.declared.replies.Entry.{Entry}
use Rattle.link_steps.specs.declared.shape.LinkShape.{LinkShape}
use Rattle.link_steps.specs.Admissible.{IsAdmissible}
use Rattle.link_steps.specs.Belonging.{IsRowOf, is_own_row, HasOnlyRow}
use Rattle.link_steps.specs.Effects.{Effect, Takes, Ticks, with_effect}
use Rattle.link_steps.specs.Hold.{expires}
use Rattle.link_steps.specs.Lists.{Each, Any}
use Rattle.link_steps.specs.Rows.{Row}
use Rattle.link_steps.specs.Scan.{Scan, clock_of, with_arrival, without_expired, with_sources, with_best, after_tick, scan_of}
use Rattle.link_steps.specs.Service.{Arrival}
use Rattle.link_steps.proofs.EntryEffects.{each-admissible}
use Rattle.link_steps.proofs.SearchAndFilter.{Each-append, Each-filter, Each-if}
use Rattle.link_steps.proofs.RowPackets.{IsApart, LeadsApart, IsBeside, IsLedUpTo, RowsStand}
use Rattle.link_steps.proofs.RowsStanding.{leads-filter}
use Rattle.link_steps.proofs.SourceHistory.{ScanServed, legal-served}
use Rattle.link_steps.proofs.SourcesServed.{HasSource}

-- ---- the rows that are gone

-- rows that are apart from others, put before them
leads-append : (rows others : List Row) → LeadsApart rows → LeadsApart others → Each (λ row. Each (IsApart row) others) rows → LeadsApart (rows ++ others)
leads-append [] others first second both = second
leads-append (row ∷ rows) others first second both = (Each-append (IsApart row) rows others first.0 both.0, leads-append rows others first.1 second both.1)

-- some of those held go beside the others
gone-more : (P : Row → List Arrival → Type 0) (test : Row → Bool) (packets : List Arrival) (gone rows : List Row) → RowsStand P P packets gone rows → LeadsApart gone → LeadsApart (gone ++ filter test rows)
gone-more P test packets gone rows stand apart =
    leads-append gone (filter test rows) apart (leads-filter test rows stand.apart)
    (Each-if (IsBeside P packets rows) (λ row. Each (IsApart row) (filter test rows)) gone (λ row beside. Each-filter (IsApart row) test rows beside.apart) stand.beside)

-- a row is gone with a tick alone
gone-effect : (shape : LinkShape) (t : ℕ) (scan : Scan) (effect : Effect) → ScanServed t scan → LeadsApart scan.gone → LeadsApart (with_effect shape t scan effect).gone
unfolding with_effect with_arrival after_tick with_best with_sources without_expired
gone-effect shape t scan (Takes packet row) served apart = apart
gone-effect shape t scan Ticks served apart = gone-more (HasSource t) (expires shape.bounds t) scan.packets scan.gone scan.rows served.stand apart
gone-effect shape t scan _ served apart = apart

gone-apart : (shape : LinkShape) (h : List Entry) → IsAdmissible shape h → LeadsApart (scan_of shape h).gone
gone-apart shape h legal =
    each-admissible (λ t scan. LeadsApart scan.gone) shape tt
    (λ past effect may fits. gone-effect shape (clock_of past) (scan_of shape past) effect (legal-served shape past may)) h legal

-- ---- all rows

-- those held are apart from those beside
held-beside : (P : Row → List Arrival → Type 0) (packets : List Arrival) (rows others : List Row) → Each (IsBeside P packets rows) others → Each (λ row. Each (IsApart row) others) rows
held-beside P packets [] others beside = tt
held-beside P packets (row ∷ rows) others beside = (
  Each-if (IsBeside P packets (row ∷ rows)) (IsApart row) others (λ other one same. sym same ∙ one.apart.0 (sym same)) beside,
  held-beside P packets rows others (Each-if (IsBeside P packets (row ∷ rows)) (IsBeside P packets rows) others (λ other one. record { fact = one.fact; upto = one.upto; apart = one.apart.1 }) beside),
)

all-apart : (shape : LinkShape) (h : List Entry) → IsAdmissible shape h → LeadsApart ((scan_of shape h).rows ++ (scan_of shape h).gone)
all-apart shape h legal =
    let stand = (legal-served shape h legal).stand in
    leads-append (scan_of shape h).rows (scan_of shape h).gone stand.apart (gone-apart shape h legal)
    (held-beside (HasSource (clock_of h)) (scan_of shape h).packets (scan_of shape h).rows (scan_of shape h).gone stand.beside)

-- ---- the row of a packet

-- no row after it is
none-else : (p : Arrival) (row : Row) (rows : List Row) → 1 ≤ p.lead → IsRowOf p row → Each (IsApart row) rows → length (filter (is_own_row p) rows) ≡ 0
none-else p row [] some is apart = refl
none-else p row (other ∷ rows) some is apart =
    elim (cases_Bool (nat_eq other.lead p.lead)) [
      | inl same ↦ absurd (let none = apart.0 (eqb-true other.lead p.lead same ∙ sym is) in omega (arith, some, is, none))
      | inr not ↦ rw not (none-else p row rows some is apart.1)
    ]

one-only : (p : Arrival) (rows : List Row) → 1 ≤ p.lead → LeadsApart rows → Any (IsRowOf p) rows → length (filter (is_own_row p) rows) ≡ 1
one-only p [] some apart any = absurd any
one-only p (row ∷ rows) some apart (inl is) = rw (eq-eqb row.lead p.lead is) (ap suc (none-else p row rows some is apart.0))
one-only p (row ∷ rows) some apart (inr any) =
    let rest = one-only p rows some apart.1 any in
    elim (cases_Bool (nat_eq row.lead p.lead)) [
      | inl same ↦ absurd (let none = none-else p row rows some (eqb-true row.lead p.lead same) apart.0 in omega (arith, none, rest))
      | inr not ↦ rw not rest
    ]

-- a packet of an admissible history that has a row has one alone
pub only-row : (shape : LinkShape) (h : List Entry) (p : Arrival) → IsAdmissible shape h → IsLedUpTo (length (scan_of shape h).packets) p → (p.level ≤ length shape.bounds → Any (IsRowOf p) ((scan_of shape h).rows ++ (scan_of shape h).gone)) → HasOnlyRow (length shape.bounds) ((scan_of shape h).rows ++ (scan_of shape h).gone) p
only-row shape h p legal led one = record { only = λ upto. one-only p ((scan_of shape h).rows ++ (scan_of shape h).gone) led.some (all-apart shape h legal) (one upto) }
