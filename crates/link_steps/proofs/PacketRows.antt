-- Each packet of an admissible history that is of one of the link's levels belongs to a row, held or gone, which tells its
-- eligible tick and its level.
use Rattle.std.proofs.Common.{◌≡◌, ℕ, suc, ◌+◌, ◌≤◌, ◌⊎◌, Bool, true, false, not, cond, List, [], ◌∷◌, ◌++◌, length, Some, inl, inr, ⊎_elim, refl, sym, ap, ◌∙◌, subst, arith}
use Rattle.std.proofs.lemmas.Bool.{cases_Bool, eq-eqb}
use Rattle.std.proofs.lemmas.List.{length-map}
use Rattle.std.proofs.lemmas.Option.{same_Some}
use Rattle.std.specs.Prelude.{filter, find, reverse}
use Rattle.net_units.specs.declared.numbers.ChanNo.{ChanNo}
use Rattle.link_steps.specs.Buffer.{has_lead}
use Rattle.link_steps.specs.Reservation.{tentative}
use Rattle.link_steps.specs.declared.asks.Packet.{Packet}
use Rattle.link_steps.specs.declared.replies.Entry.{Entry}
use Rattle.link_steps.specs.declared.shape.LinkShape.{LinkShape}
use Rattle.link_steps.specs.Admissible.{IsAdmissible}
use Rattle.link_steps.specs.Belonging.{own_packets, eligible_of, TellsPackets, IsRowOf, HasRow, HasOnlyRow, PacketsHaveRows}
use Rattle.link_steps.specs.BestEffort.{best_packet}
use Rattle.link_steps.specs.Hold.{expires, stays}
use Rattle.link_steps.specs.Lists.{change_first, without_first, Each, Any, Among}
use Rattle.link_steps.specs.Rows.{Row, new_row}
use Rattle.link_steps.specs.Scan.{Scan, clock_of, is_row_of, arrived_packet, arrived_row, with_arrival, without_expired, with_sources, with_best, best_step_at, after_tick, after, scan_of}
use Rattle.link_steps.specs.Service.{Arrival, here_at}
use Rattle.link_steps.specs.Sources.{SourceStep, Rests, Brings, Drops, lead_with, step_of, packet_of, row_after, rows_after, source_packets, taken_by}
use Rattle.link_steps.specs.Effects.{Effect, Adds, Changes, Removes, Takes, Ticks, changed_row, is_changed, with_effect}
use Rattle.link_steps.proofs.EntryEffects.{EffectFits, each-admissible}
use Rattle.link_steps.proofs.FoundElements.{Each-from_among}
use Rattle.link_steps.proofs.LegalOrder.{ScanInOrder, legal-order}
use Rattle.link_steps.proofs.RowsInOrder.{IsInOrder}
use Rattle.link_steps.proofs.SearchAndFilter.{Each-append, Each-both, Each-find, Each-if, Each-among}
use Rattle.link_steps.proofs.OnlyRows.{only-row}
use Rattle.link_steps.proofs.RowPackets.{IsLedUpTo, IsHeld, IsBeside, lead-cases}
use Rattle.link_steps.proofs.SourceHistory.{ScanServed, legal-served}
use Rattle.link_steps.proofs.SourcesServed.{HasSource}
use Rattle.link_steps.specs.declared.replies.Phase.TheVariants.{Tentative}

-- ---- some element

Any-append-left : {X : Type 0} (P : X → Type 0) (xs ys : List X) → Any P xs → Any P (xs ++ ys)
Any-append-left P [] ys any = absurd any
Any-append-left P (x ∷ xs) ys (inl here) = inl here
Any-append-left P (x ∷ xs) ys (inr any) = inr (Any-append-left P xs ys any)

Any-append-right : {X : Type 0} (P : X → Type 0) (xs ys : List X) → Any P ys → Any P (xs ++ ys)
Any-append-right P [] ys any = any
Any-append-right P (x ∷ xs) ys any = inr (Any-append-right P xs ys any)

-- each element with a fact of its own is one that passes a test, or one that doesn't
Any-split : {X : Type 0} (P : X → Type 0) (test : X → Bool) (xs : List X) → Any P xs
    → Any P (filter (λ x. not (test x)) xs) ⊎ Any P (filter test xs)
Any-split P test [] any = absurd any
Any-split P test (x ∷ xs) any = by-test (test x) any (Any-split P test xs) where
  by-test : (b : Bool) → Any P (x ∷ xs) → (Any P xs → Any P (filter (λ y. not (test y)) xs) ⊎ Any P (filter test xs)) → Any P (cond (not b) (x ∷ filter (λ y. not (test y)) xs) (filter (λ y. not (test y)) xs)) ⊎ Any P (cond b (x ∷ filter test xs) (filter test xs))
  by-test true (inl here) rest = inr (inl here)
  by-test false (inl here) rest = inl (inl here)
  by-test true (inr any) rest = ⊎_elim (λ (held : Any P (filter (λ y. not (test y)) xs)). inl held) (λ (gone : Any P (filter test xs)). inr (inr gone)) (rest any)
  by-test false (inr any) rest = ⊎_elim (λ (held : Any P (filter (λ y. not (test y)) xs)). inl (inr held)) (λ (gone : Any P (filter test xs)). inr gone) (rest any)

-- an element stays one where the change keeps the fact of the one found, or where the one taken out hasn't got it
Any-change_first : {X : Type 0} (P : X → Type 0) (test : X → Bool) (change : X → X) (xs : List X) → ((x : X) → P x → P (change x))
    → Any P xs → Any P (change_first test change xs)
unfolding change_first
Any-change_first P test change [] keeps any = absurd any
Any-change_first P test change (x ∷ xs) keeps any = by-test (test x) any (Any-change_first P test change xs keeps) where
  by-test : (b : Bool) → Any P (x ∷ xs) → (Any P xs → Any P (change_first test change xs)) → Any P (cond b (change x ∷ xs) (x ∷ change_first test change xs))
  by-test true (inl here) rest = inl (keeps x here)
  by-test true (inr any) rest = inr any
  by-test false (inl here) rest = inl here
  by-test false (inr any) rest = inr (rest any)

Any-without_first : {X : Type 0} (P : X → Type 0) (test : X → Bool) (xs : List X) → ((x : X) → find test xs ≡ Some x → P x → ⊥) → Any P xs
    → Any P (without_first test xs)
unfolding without_first
Any-without_first P test [] other any = absurd any
Any-without_first P test (x ∷ xs) other any =
    elim (cases_Bool (test x)) [
      | inl passed ↦ (let out = other x (rw passed refl) in rw passed (later out any))
      | inr failed ↦ (let rest = Any-without_first P test xs (λ y found. other y (rw failed found)) in rw failed (stays-there rest any))
    ] where
      later : (P x → ⊥) → Any P (x ∷ xs) → Any P xs
      later out (inl here) = absurd (out here)
      later out (inr any) = any

      stays-there : (Any P xs → Any P (without_first test xs)) → Any P (x ∷ xs) → Any P (x ∷ without_first test xs)
      stays-there rest (inl here) = inl here
      stays-there rest (inr any) = inr (rest any)

-- the one found, changed
Any-found : {X : Type 0} (P : X → Type 0) (test : X → Bool) (change : X → X) (x : X) (xs : List X) → find test xs ≡ Some x → P (change x)
    → Any P (change_first test change xs)
unfolding change_first
Any-found P test change x [] found fact = cc
Any-found P test change x (y ∷ xs) found fact =
    elim (cases_Bool (test y)) [
      | inl passed ↦ (let same = same_Some y x (rw passed at found) in rw passed (inl (subst (λ z. P (change z)) (sym same) fact)))
      | inr failed ↦ (let rest = Any-found P test change x xs (rw failed at found) fact in rw failed (inr rest))
    ]

-- ---- membership

pub Among-passes : {X : Type 0} (test : X → Bool) (x : X) (xs : List X) → test x ≡ true → Among x xs → Among x (filter test xs)
Among-passes test x [] passed among = absurd among
Among-passes test x (y ∷ ys) passed (inl same) = (let own : test y ≡ true = ap test (sym same) ∙ passed in rw own (inl same))
Among-passes test x (y ∷ ys) passed (inr among) = by-test (test y) (Among-passes test x ys passed among) where
  by-test : (b : Bool) → Among x (filter test ys) → Among x (cond b (y ∷ filter test ys) (filter test ys))
  by-test true rest = inr rest
  by-test false rest = rest

Among-some : {X : Type 0} (x : X) (xs : List X) → Among x xs → 1 ≤ length xs
Among-some x [] among = absurd among
Among-some x (y ∷ ys) among = omega arith

-- ---- one packet more

-- a row that has packets keeps its lead
pub lead_with-later : (lead place : ℕ) → 1 ≤ lead → lead_with lead place ≡ lead
lead_with-later lead place some =
    ⊎_elim
    (λ (new : (lead ≡ 0) × (lead_with lead place ≡ place)). absurd (omega (arith, some, new.0)))
    (λ (old : (1 ≤ lead) × (lead_with lead place ≡ lead)). old.1)
    (lead-cases lead place)

-- the row of a packet stays its row with one packet more
row-kept : (p : Arrival) (row after : Row) (place : ℕ) → 1 ≤ p.lead → after.lead ≡ lead_with row.lead place → IsRowOf p row
    → IsRowOf p after
row-kept p row after place some lead is = lead ∙ lead_with-later row.lead place (omega (arith, some, is)) ∙ is

-- ---- the sources of a tick

step-kept : (step : SourceStep) (p : Arrival) (t place : ℕ) (row : Row) → 1 ≤ p.lead → IsRowOf p row
    → IsRowOf p (row_after step t place row)
step-kept Rests p t place row some is = is
step-kept Drops p t place row some is = is
step-kept (Brings size) p t place row some is = row-kept p row (row_after (Brings size) t place row) place some refl is

rows-kept : (bounds : List ℕ) (here : List Arrival) (p : Arrival) (t taken : ℕ) (rows : List Row) → 1 ≤ p.lead → Any (IsRowOf p) rows
    → Any (IsRowOf p) (rows_after bounds here t taken rows)
unfolding rows_after
rows-kept bounds here p t taken [] some any = absurd any
rows-kept bounds here p t taken (row ∷ rows) some (inl is) = inl (step-kept (step_of bounds here t row) p t (suc taken) row some is)
rows-kept bounds here p t taken (row ∷ rows) some (inr any) = inr (rows-kept bounds here p t (taken + taken_by (step_of bounds here t row)) rows some any)

-- what a source brings is of its row
step-brings : (step : SourceStep) (t place : ℕ) (row : Row)
    → Each (λ p. IsRowOf p (row_after step t place row)) (packet_of step t place row)
step-brings Rests t place row = tt
step-brings Drops t place row = tt
step-brings (Brings size) t place row = (refl, tt)

sources-bring : (bounds : List ℕ) (here : List Arrival) (t taken : ℕ) (rows : List Row)
    → Each (λ p. Any (IsRowOf p) (rows_after bounds here t taken rows)) (source_packets bounds here t taken rows)
unfolding source_packets rows_after
sources-bring bounds here t taken [] = tt
sources-bring bounds here t taken (row ∷ rows) =
    Each-append (λ p. Any (IsRowOf p) (row_after (step_of bounds here t row) t (suc taken) row ∷ rows_after bounds here t (taken + taken_by (step_of bounds here t row)) rows))
    (packet_of (step_of bounds here t row) t (suc taken) row) (source_packets bounds here t (taken + taken_by (step_of bounds here t row)) rows)
    (Each-if (λ p. IsRowOf p (row_after (step_of bounds here t row) t (suc taken) row)) _ (packet_of (step_of bounds here t row) t (suc taken) row) (λ p is. inl is) (step-brings (step_of bounds here t row) t (suc taken) row))
    (Each-if (λ p. Any (IsRowOf p) (rows_after bounds here t (taken + taken_by (step_of bounds here t row)) rows)) _ (source_packets bounds here t (taken + taken_by (step_of bounds here t row)) rows) (λ p any. inr any) (sources-bring bounds here t (taken + taken_by (step_of bounds here t row)) rows))

-- ---- one entry

-- the packets of a scan have rows, where they are of one of the levels
abbrev HaveRows : ℕ → Scan → Type 0
HaveRows levels scan = Each (HasRow levels scan.rows scan.gone) scan.packets

-- packets with leads stay with their rows, where the rows held keep their leads
have-with : (levels : ℕ) (scan : Scan) (rows : List Row) → ((p : Arrival) → 1 ≤ p.lead → Any (IsRowOf p) scan.rows → Any (IsRowOf p) rows)
    → Each (IsLedUpTo (length scan.packets)) scan.packets → HaveRows levels scan → HaveRows levels (record scan { rows = rows })
have-with levels scan rows keeps leads have =
    Each-if (λ p. IsLedUpTo (length scan.packets) p × HasRow levels scan.rows scan.gone p) (HasRow levels rows scan.gone) scan.packets
    (λ p both. record { one = λ upto. ⊎_elim (λ (held : Any (IsRowOf p) scan.rows). inl (keeps p both.0.some held)) (λ (gone : Any (IsRowOf p) scan.gone). inr gone) (both.1.one upto) })
    (Each-both (IsLedUpTo (length scan.packets)) (HasRow levels scan.rows scan.gone) scan.packets leads have)

have-taken : (levels t : ℕ) (packet : Packet) (scan : Scan) (row : Row) → find (is_row_of packet.chan) scan.rows ≡ Some row
    → Each (IsLedUpTo (length scan.packets)) scan.packets → HaveRows levels scan → HaveRows levels (with_arrival t packet scan (Some row))
unfolding with_arrival
have-taken levels t packet scan row is leads have =
    let rows : List Row = change_first (is_row_of packet.chan) (arrived_row t (suc (length scan.packets)) packet) scan.rows in
    Each-append (HasRow levels (change_first (is_row_of packet.chan) (arrived_row t (suc (length scan.packets)) packet) scan.rows) scan.gone) scan.packets (arrived_packet t (suc (length scan.packets)) packet row ∷ [])
    (have-with levels scan (change_first (is_row_of packet.chan) (arrived_row t (suc (length scan.packets)) packet) scan.rows)
    (λ p some any. Any-change_first (IsRowOf p) (is_row_of packet.chan) (arrived_row t (suc (length scan.packets)) packet) scan.rows (λ r own. row-kept p r (arrived_row t (suc (length scan.packets)) packet r) (suc (length scan.packets)) some refl own) any) leads have)
    (record { one = λ upto. inl (Any-found (IsRowOf (arrived_packet t (suc (length scan.packets)) packet row)) (is_row_of packet.chan) (arrived_row t (suc (length scan.packets)) packet) row scan.rows is refl) }, tt)

-- a best-effort packet is of none of the levels
have-best : (levels t place : ℕ) (bounds : List ℕ) (rows gone : List Row) (step : SourceStep) → levels ≡ length bounds
    → Each (HasRow levels rows gone) (best_packet step bounds place t)
have-best levels t place bounds rows gone Rests same = tt
have-best levels t place bounds rows gone Drops same = tt
have-best levels t place bounds rows gone (Brings size) same = (record { one = λ upto. absurd (omega (arith, upto, same)) }, tt)

have-tick : (shape : LinkShape) (t : ℕ) (scan : Scan) → Each (IsLedUpTo (length scan.packets)) scan.packets
    → HaveRows (length shape.bounds) scan → HaveRows (length shape.bounds) (after_tick shape t scan)
unfolding after_tick with_best with_sources without_expired
have-tick shape t scan leads have = ticked (filter (stays shape.bounds t) scan.rows) (filter (expires shape.bounds t) scan.rows) (here_at shape.rate scan.packets t) (best_step_at shape t scan) (λ p any. Any-split (IsRowOf p) (expires shape.bounds t) scan.rows any) where
  ticked : (held expired : List Row) (here : List Arrival) (step : SourceStep) → ((p : Arrival) → Any (IsRowOf p) scan.rows → Any (IsRowOf p) held ⊎ Any (IsRowOf p) expired) → Each (HasRow (length shape.bounds) (rows_after shape.bounds here t (length scan.packets) held) (scan.gone ++ expired)) ((scan.packets ++ source_packets shape.bounds here t (length scan.packets) held) ++ best_packet step shape.bounds (suc (length (scan.packets ++ source_packets shape.bounds here t (length scan.packets) held))) t)
  ticked held expired here step split =
      let before : Each (HasRow (length shape.bounds) (rows_after shape.bounds here t (length scan.packets) held) (scan.gone ++ expired)) scan.packets =
      Each-if (λ p. IsLedUpTo (length scan.packets) p × HasRow (length shape.bounds) scan.rows scan.gone p) (HasRow (length shape.bounds) (rows_after shape.bounds here t (length scan.packets) held) (scan.gone ++ expired)) scan.packets
      (λ p both. record {
        one = λ upto. ⊎_elim
            (λ (row : Any (IsRowOf p) scan.rows). ⊎_elim
            (λ (own : Any (IsRowOf p) held). inl (rows-kept shape.bounds here p t (length scan.packets) held both.0.some own))
            (λ (own : Any (IsRowOf p) expired). inr (Any-append-right (IsRowOf p) scan.gone expired own))
            (split p row))
            (λ (row : Any (IsRowOf p) scan.gone). inr (Any-append-left (IsRowOf p) scan.gone expired row))
            (both.1.one upto);
      })
      (Each-both (IsLedUpTo (length scan.packets)) (HasRow (length shape.bounds) scan.rows scan.gone) scan.packets leads have) in
      let brought : Each (HasRow (length shape.bounds) (rows_after shape.bounds here t (length scan.packets) held) (scan.gone ++ expired)) (source_packets shape.bounds here t (length scan.packets) held) =
      Each-if (λ p. Any (IsRowOf p) (rows_after shape.bounds here t (length scan.packets) held)) (HasRow (length shape.bounds) (rows_after shape.bounds here t (length scan.packets) held) (scan.gone ++ expired)) (source_packets shape.bounds here t (length scan.packets) held) (λ p any. record { one = λ upto. inl any }) (sources-bring shape.bounds here t (length scan.packets) held) in
      Each-append (HasRow (length shape.bounds) (rows_after shape.bounds here t (length scan.packets) held) (scan.gone ++ expired)) (scan.packets ++ source_packets shape.bounds here t (length scan.packets) held) _
      (Each-append (HasRow (length shape.bounds) (rows_after shape.bounds here t (length scan.packets) held) (scan.gone ++ expired)) scan.packets (source_packets shape.bounds here t (length scan.packets) held) before brought)
      (have-best (length shape.bounds) t (suc (length (scan.packets ++ source_packets shape.bounds here t (length scan.packets) held))) shape.bounds (rows_after shape.bounds here t (length scan.packets) held) (scan.gone ++ expired) step refl)

-- a row that is denied has no packets
none-denied : (t : ℕ) (scan : Scan) (p : Arrival) (row : Row) → row.ticks ≡ [] → HasSource t row (own_packets row scan.packets)
    → Among p scan.packets → IsRowOf p row → ⊥
none-denied t scan p row none source among is =
    let nothing : length (own_packets row scan.packets) ≡ 0 = sym (length-map (own_packets row scan.packets) eligible_of) ∙ ap length (sym source.eligible) ∙ ap (λ ticks. length (reverse ticks)) none in
    let some = Among-some p (own_packets row scan.packets) (Among-passes (has_lead row.lead) p scan.packets (eq-eqb p.lead row.lead (sym is)) among) in
    omega (arith, nothing, some)

have-removed : (levels t : ℕ) (shape : LinkShape) (scan : Scan) (chan : ChanNo)
    → ((row : Row) → find (is_row_of chan) scan.rows ≡ Some row → row.terms.phase ≡ Tentative) → ScanInOrder shape t scan
    → ScanServed t scan → HaveRows levels scan → HaveRows levels (record scan { rows = without_first (is_row_of chan) scan.rows })
have-removed levels t shape scan chan tentative order served have =
    Each-from_among (HasRow levels (without_first (is_row_of chan) scan.rows) scan.gone) scan.packets (λ p among. record {
      one = λ upto. ⊎_elim
          (λ (held : Any (IsRowOf p) scan.rows). inl (Any-without_first (IsRowOf p) (is_row_of chan) scan.rows
          (λ row found own.
          let fresh = (Each-find (IsInOrder shape t) (is_row_of chan) scan.rows row order.held found).fresh (tentative row found) in
          let stand = Each-find (IsHeld (HasSource t) scan.packets) (is_row_of chan) scan.rows row served.stand.held found in
          none-denied t scan p row fresh.0 stand.fact among own) held))
          (λ (gone : Any (IsRowOf p) scan.gone). inr gone)
          ((Each-among (HasRow levels scan.rows scan.gone) p scan.packets have among).one upto);
    })

have-effect : (shape : LinkShape) (t : ℕ) (scan : Scan) (effect : Effect) → EffectFits shape t scan effect → ScanInOrder shape t scan
    → ScanServed t scan → HaveRows (length shape.bounds) scan → HaveRows (length shape.bounds) (with_effect shape t scan effect)
unfolding with_effect
have-effect shape t scan (Adds terms) fits order served have =
    have-with (length shape.bounds) scan (scan.rows ++ new_row terms ∷ []) (λ p some any. Any-append-left (IsRowOf p) scan.rows _ any) served.stand.leads have
have-effect shape t scan (Changes chan change) fits order served have =
    have-with (length shape.bounds) scan _ (λ p some any. Any-change_first (IsRowOf p) (is_changed chan change) (changed_row t change) scan.rows (λ row own. own) any) served.stand.leads have
have-effect shape t scan (Removes chan) fits order served have = have-removed (length shape.bounds) t shape scan chan fits order served have
have-effect shape t scan (Takes packet row) fits order served have = have-taken (length shape.bounds) t packet scan row fits.found served.stand.leads have
have-effect shape t scan Ticks fits order served have = have-tick shape t scan served.stand.leads have
have-effect shape t scan _ fits order served have = have

-- ---- every entry

legal-have : (shape : LinkShape) (h : List Entry) → IsAdmissible shape h → HaveRows (length shape.bounds) (scan_of shape h)
legal-have shape h legal =
    each-admissible (λ t scan. HaveRows (length shape.bounds) scan) shape tt
    (λ past effect may fits. have-effect shape (clock_of past) (scan_of shape past) effect fits (legal-order shape past may) (legal-served shape past may)) h legal

pub packets-have_rows : (shape : LinkShape) (h : List Entry) → IsAdmissible shape h → PacketsHaveRows shape h
packets-have_rows shape h legal =
    let stand = (legal-served shape h legal).stand in
    let order = legal-order shape h legal in
    let levels = length shape.bounds in
    let packets = (scan_of shape h).packets in
    let rows = (scan_of shape h).rows in
    let gone = (scan_of shape h).gone in
    let have = legal-have shape h legal in
    record {
      held = Each-if (λ row. IsHeld (HasSource (clock_of h)) packets row × IsInOrder shape (clock_of h) row) (TellsPackets levels packets) rows
          (λ row both. record { ticks = both.0.fact.eligible; level = both.0.fact.levels; within = both.1.level_most })
          (Each-both (IsHeld (HasSource (clock_of h)) packets) (IsInOrder shape (clock_of h)) rows stand.held order.held);
      gone = Each-if (λ row. IsBeside (HasSource (clock_of h)) packets rows row × IsInOrder shape (clock_of h) row) (TellsPackets levels packets) gone
          (λ row both. record { ticks = both.0.fact.eligible; level = both.0.fact.levels; within = both.1.level_most })
          (Each-both (IsBeside (HasSource (clock_of h)) packets rows) (IsInOrder shape (clock_of h)) gone stand.beside order.gone);
      each = have;
      alone = Each-if (λ p. IsLedUpTo (length packets) p × HasRow levels rows gone p) (HasOnlyRow levels (rows ++ gone)) packets
          (λ p both. only-row shape h p legal both.0 (λ upto. ⊎_elim
          (λ (held : Any (IsRowOf p) rows). Any-append-left (IsRowOf p) rows gone held)
          (λ (out : Any (IsRowOf p) gone). Any-append-right (IsRowOf p) rows gone out)
          (both.1.one upto)))
          (Each-both (IsLedUpTo (length packets)) (HasRow levels rows gone) packets stand.leads have);
    }
