-- What stands of the rows and their packets stands through each change of the rows: as they expire, are reserved, denied
-- and changed, and as one of them takes a packet from elsewhere.
use Rattle.std.proofs.lemmas.List.{length_push}
use Rattle.std.proofs.Common.{◌≡◌, ℕ, suc, Bool, true, false, cond, not, List, [], ◌∷◌, ◌++◌, length, Some, inl, inr, refl, sym, ap, ◌∙◌, subst, arith, ◌+◌}
use Rattle.std.proofs.lemmas.Bool.{cases_Bool, cond_both}
use Rattle.std.proofs.lemmas.Option.{same_Some}
use Rattle.std.specs.Prelude.{filter, find}
use Rattle.link_steps.specs.declared.asks.Packet.{Packet}
use Rattle.link_steps.specs.declared.shape.LinkShape.{LinkShape}
use Rattle.link_steps.specs.Buffer.{has_lead}
use Rattle.link_steps.specs.Belonging.{own_packets}
use Rattle.link_steps.specs.Effects.{Change, Effect, Adds, Changes, Removes, Takes, Ticks, PlansBest, Nothing, changed_row, is_changed, with_effect, clock_by}
use Rattle.link_steps.specs.Lists.{Each, change_first, without_first}
use Rattle.link_steps.specs.Reservation.{Reservation}
use Rattle.link_steps.specs.Rows.{Row, new_row}
use Rattle.link_steps.specs.Scan.{Scan, is_row_of, arrived_row, arrived_packet, with_arrival, after_tick}
use Rattle.link_steps.specs.Service.{Arrival}
use Rattle.link_steps.specs.Sources.{lead_with}
use Rattle.link_steps.proofs.EntryEffects.{AddFits, ChangeFits, TakeFits, EffectFits}
use Rattle.link_steps.proofs.SearchAndFilter.{Each-append, Each-both, Each-filter, Each-if, Each-without_first}
use Rattle.link_steps.proofs.RowPackets.{own-new, IsApart, LeadsApart, IsHeld, IsBeside, RowsStand, stand-takes, takes-apart, stand-rests, rests-apart, stand-back, own-same, IsLedUpTo}

-- what follows of each row, beside the others or held
pub stand-if : (P Q R S : Row → List Arrival → Type 0) (A B : Row → Type 0) (packets : List Arrival) (others rows : List Row) → ((row : Row) → A row → P row (own_packets row packets) → R row (own_packets row packets)) → ((row : Row) → B row → Q row (own_packets row packets) → S row (own_packets row packets)) → Each A others → Each B rows → RowsStand P Q packets others rows → RowsStand R S packets others rows
stand-if P Q R S A B packets others rows aside within first second stand = record {
  leads = stand.leads;
  beside = Each-if (λ row. A row × IsBeside P packets rows row) (IsBeside R packets rows) others (λ row both. record { fact = aside row both.0 both.1.fact; upto = both.1.upto; apart = both.1.apart }) (Each-both A (IsBeside P packets rows) others first stand.beside);
  held = Each-if (λ row. B row × IsHeld Q packets row) (IsHeld S packets) rows (λ row both. record { fact = within row both.0 both.1.fact; upto = both.1.upto }) (Each-both B (IsHeld Q packets) rows second stand.held);
  apart = stand.apart;
}

-- ---- rows expire

pub leads-filter : (test : Row → Bool) (rows : List Row) → LeadsApart rows → LeadsApart (filter test rows)
leads-filter test [] apart = tt
leads-filter test (row ∷ rows) apart =
    cond_both (test row) (row ∷ filter test rows) (filter test rows) LeadsApart
    (λ _. (Each-filter (IsApart row) test rows apart.0, leads-filter test rows apart.1)) (λ _. leads-filter test rows apart.1)

-- rows that pass a test are apart from those that don't
leads-split : (test : Row → Bool) (rows : List Row) → LeadsApart rows → Each (λ out. Each (IsApart out) (filter (λ row. not (test row)) rows)) (filter test rows)
leads-split test [] apart = tt
leads-split test (row ∷ rows) apart = by-test (test row) (leads-split test rows apart.1) where
  by-test : (b : Bool) → Each (λ out. Each (IsApart out) (filter (λ r. not (test r)) rows)) (filter test rows) → Each (λ out. Each (IsApart out) (cond (not b) (row ∷ filter (λ r. not (test r)) rows) (filter (λ r. not (test r)) rows))) (cond b (row ∷ filter test rows) (filter test rows))
  by-test true rest = (Each-filter (IsApart row) (λ r. not (test r)) rows apart.0, rest)
  by-test false rest =
      Each-if (λ out. IsApart row out × Each (IsApart out) (filter (λ r. not (test r)) rows)) (λ out. IsApart out row × Each (IsApart out) (filter (λ r. not (test r)) rows)) (filter test rows)
      (λ out both. (λ same. sym same ∙ both.0 (sym same), both.1))
      (Each-both (IsApart row) (λ out. Each (IsApart out) (filter (λ r. not (test r)) rows)) (filter test rows) (Each-filter (IsApart row) test rows apart.0) rest)

-- those that pass the test go beside the others
pub stand-expired : (P : Row → List Arrival → Type 0) (test : Row → Bool) (packets : List Arrival) (others rows : List Row) → RowsStand P P packets others rows → RowsStand P P packets (others ++ filter test rows) (filter (λ row. not (test row)) rows)
stand-expired P test packets others rows stand = record {
  leads = stand.leads;
  beside = Each-append (IsBeside P packets (filter (λ row. not (test row)) rows)) others (filter test rows)
      (Each-if (IsBeside P packets rows) (IsBeside P packets (filter (λ row. not (test row)) rows)) others
      (λ row beside. record { fact = beside.fact; upto = beside.upto; apart = Each-filter (IsApart row) (λ r. not (test r)) rows beside.apart }) stand.beside)
      (Each-if (λ row. IsHeld P packets row × Each (IsApart row) (filter (λ r. not (test r)) rows)) (IsBeside P packets (filter (λ row. not (test row)) rows)) (filter test rows)
      (λ row both. record { fact = both.0.fact; upto = both.0.upto; apart = both.1 })
      (Each-both (IsHeld P packets) (λ row. Each (IsApart row) (filter (λ r. not (test r)) rows)) (filter test rows) (Each-filter (IsHeld P packets) test rows stand.held) (leads-split test rows stand.apart)));
  held = Each-filter (IsHeld P packets) (λ row. not (test row)) rows stand.held;
  apart = leads-filter (λ row. not (test row)) rows stand.apart;
}

-- ---- rows are reserved and denied

leads-push : (row : Row) (rows : List Row) → row.lead ≡ 0 → LeadsApart rows → LeadsApart (rows ++ row ∷ [])
leads-push row [] new apart = (tt, tt)
leads-push row (r ∷ rows) new apart = (Each-append (IsApart r) rows (row ∷ []) apart.0 ((λ same. sym same ∙ new), tt), leads-push row rows new apart.1)

-- a row without packets
pub stand-reserved : (P : Row → List Arrival → Type 0) (packets : List Arrival) (others rows : List Row) (row : Row) → row.lead ≡ 0 → P row [] → RowsStand P P packets others rows → RowsStand P P packets others (rows ++ row ∷ [])
stand-reserved P packets others rows row new fact stand = record {
  leads = stand.leads;
  beside = Each-if (IsBeside P packets rows) (IsBeside P packets (rows ++ row ∷ [])) others
      (λ other beside. record { fact = beside.fact; upto = beside.upto; apart = Each-append (IsApart other) rows (row ∷ []) beside.apart ((λ same. sym same ∙ new), tt) }) stand.beside;
  held = Each-append (IsHeld P packets) rows (row ∷ []) stand.held
      (record { fact = subst (P row) (sym (ap (λ n. filter (has_lead n) packets) new ∙ own-new (length packets) packets stand.leads)) fact; upto = omega (arith, new) }, tt);
  apart = leads-push row rows new stand.apart;
}

leads-without_first : (test : Row → Bool) (rows : List Row) → LeadsApart rows → LeadsApart (without_first test rows)
unfolding without_first
leads-without_first test [] apart = tt
leads-without_first test (row ∷ rows) apart =
    cond_both (test row) rows (row ∷ without_first test rows) LeadsApart
    (λ _. apart.1) (λ _. (Each-without_first (IsApart row) test rows apart.0, leads-without_first test rows apart.1))

-- one row fewer
pub stand-denied : (P : Row → List Arrival → Type 0) (test : Row → Bool) (packets : List Arrival) (others rows : List Row) → RowsStand P P packets others rows → RowsStand P P packets others (without_first test rows)
stand-denied P test packets others rows stand = record {
  leads = stand.leads;
  beside = Each-if (IsBeside P packets rows) (IsBeside P packets (without_first test rows)) others
      (λ other beside. record { fact = beside.fact; upto = beside.upto; apart = Each-without_first (IsApart other) test rows beside.apart }) stand.beside;
  held = Each-without_first (IsHeld P packets) test rows stand.held;
  apart = leads-without_first test rows stand.apart;
}

-- ---- a row changes

-- the row found keeps its lead, and P
pub stand-changed : (P : Row → List Arrival → Type 0) (test : Row → Bool) (change : Row → Row) (packets : List Arrival) → ((row : Row) → (change row).lead ≡ row.lead) → (rows others : List Row) → ((row : Row) → find test rows ≡ Some row → P row (own_packets row packets) → P (change row) (own_packets row packets)) → RowsStand P P packets others rows → RowsStand P P packets others (change_first test change rows)
unfolding change_first
stand-changed P test change packets lead [] others keeps stand = stand
stand-changed P test change packets lead (row ∷ rows) others keeps stand =
    elim (cases_Bool (test row)) [
      | inl passed ↦ (let fact = keeps row (rw passed refl) stand.held.0.fact in
          rw passed (stand-back P packets others rows (change row) (rests-apart P P packets others rows row (change row) (lead row) stand) (stand-rests P P packets others rows row (change row) (lead row) fact stand)))
      | inr failed ↦ (let rest = stand-changed P test change packets lead rows (row ∷ others) (λ r found. keeps r (rw failed found)) (stand-rests P P packets others rows row row refl stand.held.0.fact stand) in
          rw failed (stand-back P packets others (change_first test change rows) row (rests-apart P P packets others rows row row refl stand) rest))
    ]

-- the row found takes a packet
pub stand-arrives : (P : Row → List Arrival → Type 0) (test : Row → Bool) (change : Row → Row) (packets : List Arrival) (p : Arrival) (row : Row) → (change row).lead ≡ lead_with row.lead (suc (length packets)) → p.lead ≡ lead_with row.lead (suc (length packets)) → (P row (own_packets row packets) → P (change row) (own_packets row packets ++ p ∷ [])) → (rows others : List Row) → find test rows ≡ Some row → RowsStand P P packets others rows → RowsStand P P (packets ++ p ∷ []) others (change_first test change rows)
unfolding change_first
stand-arrives P test change packets p row lead is keeps [] others found stand = cc
stand-arrives P test change packets p row lead is keeps (r ∷ rows) others found stand =
    elim (cases_Bool (test r)) [
      | inl passed ↦ (let same = same_Some r row (rw passed at found) in
          let own = subst (λ x. RowsStand P P packets others (x ∷ rows)) same stand in
          rw passed (subst (λ x. RowsStand P P (packets ++ p ∷ []) others (change x ∷ rows)) (sym same)
          (stand-back P (packets ++ p ∷ []) others rows (change row) (takes-apart P P packets others rows row (change row) (suc (length packets)) refl lead own)
          (stand-takes P P packets others rows row (change row) p (suc (length packets)) refl lead is (keeps own.held.0.fact) own))))
      | inr failed ↦ (let rest = stand-arrives P test change packets p row lead is keeps rows (r ∷ others) (rw failed at found) (stand-rests P P packets others rows r r refl stand.held.0.fact stand) in
          rw failed (stand-back P (packets ++ p ∷ []) others (change_first test change rows) r (rests-apart P P packets others rows r r refl stand) rest))
    ]

-- ---- a packet of no row

-- a packet with a lead of its own
pub stand-apart : (P : Row → List Arrival → Type 0) (packets : List Arrival) (others rows : List Row) (p : Arrival) → p.lead ≡ suc (length packets) → RowsStand P P packets others rows → RowsStand P P (packets ++ p ∷ []) others rows
stand-apart P packets others rows p own stand =
    let more : length (packets ++ p ∷ []) ≡ length packets + 1 = length_push packets p in
    record {
      leads = Each-append (IsLedUpTo (length (packets ++ p ∷ []))) packets (p ∷ [])
          (Each-if (IsLedUpTo (length packets)) (IsLedUpTo (length (packets ++ p ∷ []))) packets (λ q led. record { some = led.some; upto = (let h = led.upto in omega (arith, h, more)) }) stand.leads)
          (record { some = omega (arith, own); upto = omega (arith, own, more) }, tt);
      beside = Each-if (IsBeside P packets rows) (IsBeside P (packets ++ p ∷ []) rows) others (λ row beside. record {
        fact = subst (P row) (sym (own-same row.lead packets p (λ same. (let under = beside.upto in omega (arith, own, same, under))))) beside.fact;
        upto = (let under = beside.upto in omega (arith, under, more));
        apart = beside.apart;
      }) stand.beside;
      held = Each-if (IsHeld P packets) (IsHeld P (packets ++ p ∷ [])) rows (λ row held. record {
        fact = subst (P row) (sym (own-same row.lead packets p (λ same. (let under = held.upto in omega (arith, own, same, under))))) held.fact;
        upto = (let under = held.upto in omega (arith, under, more));
      }) stand.held;
      apart = stand.apart;
    }

-- ---- an effect

-- P of each row, held or gone, and its packets
abbrev pub Stands : (Row → List Arrival → Type 0) → Scan → Type 0
Stands P scan = RowsStand P P scan.packets scan.gone scan.rows

-- P is so of a new row, and stays so where a row is changed and where it takes a packet
pub record StaysWithEffects (P : Row → List Arrival → Type 0) (shape : LinkShape) (t : ℕ) (scan : Scan) : Type 0 where
  pub added : (terms : Reservation) → AddFits shape scan terms → P (new_row terms) []
  pub changed : (test : Row → Bool) (change : Change) (row : Row) → find test scan.rows ≡ Some row → ChangeFits shape t change row → P row (own_packets row scan.packets) → P (changed_row t change row) (own_packets row scan.packets)
  pub taken : (packet : Packet) (row : Row) → TakeFits shape t scan packet row → P row (own_packets row scan.packets)
      → P (arrived_row t (suc (length scan.packets)) packet row) (own_packets row scan.packets ++ arrived_packet t (suc (length scan.packets)) packet row ∷ [])

-- so what stands stands with an effect, if it does with a tick
pub stand-effect : (P : ℕ → Row → List Arrival → Type 0) (shape : LinkShape) (t : ℕ) (scan : Scan) (effect : Effect) → StaysWithEffects (P t) shape t scan → Stands (P (suc t)) (after_tick shape t scan) → EffectFits shape t scan effect → Stands (P t) scan → Stands (P (clock_by effect t)) (with_effect shape t scan effect)
unfolding with_effect with_arrival
stand-effect P shape t scan (Adds terms) stays ticked fits stand = stand-reserved (P t) scan.packets scan.gone scan.rows (new_row terms) refl (stays.added terms fits) stand
stand-effect P shape t scan (Changes chan change) stays ticked fits stand =
    stand-changed (P t) (is_changed chan change) (changed_row t change) scan.packets (λ row. refl) scan.rows scan.gone (λ row found. stays.changed (is_changed chan change) change row found (fits row found)) stand
stand-effect P shape t scan (Removes chan) stays ticked fits stand = stand-denied (P t) (is_row_of chan) scan.packets scan.gone scan.rows stand
stand-effect P shape t scan (Takes packet row) stays ticked fits stand =
    stand-arrives (P t) (is_row_of packet.chan) (arrived_row t (suc (length scan.packets)) packet) scan.packets (arrived_packet t (suc (length scan.packets)) packet row) row refl refl (stays.taken packet row fits) scan.rows scan.gone fits.found stand
stand-effect P shape t scan Ticks stays ticked fits stand = ticked
stand-effect P shape t scan (PlansBest count gap size) stays ticked fits stand = record { leads = stand.leads; beside = stand.beside; held = stand.held; apart = stand.apart }
stand-effect P shape t scan Nothing stays ticked fits stand = stand
