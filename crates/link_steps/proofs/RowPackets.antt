-- The packets of a row are those with its lead. No two rows have one lead, so a packet that a row takes is one more of
-- its own, and none of another row.
use Rattle.std.proofs.Common.{◌≡◌, ◌≢◌, ℕ, suc, ◌+◌, ◌≤◌, ◌⊎◌, false, List, [], ◌∷◌, ◌++◌, length, inl, inr, ⊎_elim, refl, sym, ap, ◌∙◌, subst, arith, append-nil, append_assoc}
use Rattle.std.proofs.lemmas.Bool.{cases_Bool, eq-eqb, eqb-true, ne_eqb, eqb-false}
use Rattle.std.proofs.lemmas.List.{length_push}
use Rattle.std.proofs.lemmas.List.Elements.{filter-append}
use Rattle.std.specs.Prelude.{filter, nat_eq}
use Rattle.link_steps.specs.Buffer.{has_lead}
use Rattle.link_steps.specs.Belonging.{own_packets}
use Rattle.link_steps.specs.Lists.{Each}
use Rattle.link_steps.specs.Rows.{Row}
use Rattle.link_steps.specs.Service.{Arrival}
use Rattle.link_steps.specs.Sources.{SourceStep, Rests, Brings, Drops, arrival_at, lead_with, source_tick, step_of, packet_of, row_after, taken_by, source_packets, rows_after}
use Rattle.link_steps.proofs.SearchAndFilter.{Each-append, Each-both, Each-if, filter-none}

-- the lead of a packet is an arrival number up to `taken`
pub record IsLedUpTo (taken : ℕ) (p : Arrival) : Type 0 where
  pub some : 1 ≤ p.lead
  pub upto : p.lead ≤ taken

-- another row doesn't have the lead of this one, unless that has none yet
abbrev pub IsApart : Row → Row → Type 0
IsApart row other = other.lead ≡ row.lead → row.lead ≡ 0

-- no two of the rows have one lead
abbrev pub LeadsApart : List Row → Type 0
LeadsApart [] = Unit {0}
LeadsApart (row ∷ rows) = Each (IsApart row) rows × LeadsApart rows

-- P holds of a row and its packets
pub record IsHeld (P : Row → List Arrival → Type 0) (packets : List Arrival) (row : Row) : Type 0 where
  pub fact : P row (own_packets row packets)
  pub upto : row.lead ≤ length packets

-- and the row is apart from the rows held
pub record IsBeside (P : Row → List Arrival → Type 0) (packets : List Arrival) (rows : List Row) (row : Row) : Type 0 where
  pub fact : P row (own_packets row packets)
  pub upto : row.lead ≤ length packets
  pub apart : Each (IsApart row) rows

-- P holds of each row beside those held, and Q of each of these
pub record RowsStand (P Q : Row → List Arrival → Type 0) (packets : List Arrival) (others rows : List Row) : Type 0 where
  pub leads : Each (IsLedUpTo (length packets)) packets
  pub beside : Each (IsBeside P packets rows) others
  pub held : Each (IsHeld Q packets) rows
  pub apart : LeadsApart rows

-- ---- own packets

-- the lead with a packet is that of its arrival number where there was none, and the same where there was one
pub lead-cases : (lead place : ℕ) → ((lead ≡ 0) × (lead_with lead place ≡ place)) ⊎ ((1 ≤ lead) × (lead_with lead place ≡ lead))
lead-cases lead place =
    elim (cases_Bool (nat_eq lead 0)) [
      | inl none ↦ inl (eqb-true lead 0 none, rw none refl)
      | inr some ↦ inr (let h = eqb-false lead 0 some in positive lead h, rw some refl)
    ] where
      positive : (n : ℕ) → n ≢ 0 → 1 ≤ n
      positive n other = omega (arith, other)

own-more : (n : ℕ) (packets : List Arrival) (p : Arrival) → p.lead ≡ n → filter (has_lead n) (packets ++ p ∷ []) ≡ filter (has_lead n) packets ++ p ∷ []
own-more n packets p same = filter-append (has_lead n) packets (p ∷ []) ∙ rw (eq-eqb p.lead n same) refl

pub own-same : (n : ℕ) (packets : List Arrival) (p : Arrival) → p.lead ≢ n → filter (has_lead n) (packets ++ p ∷ []) ≡ filter (has_lead n) packets
own-same n packets p other = filter-append (has_lead n) packets (p ∷ []) ∙ rw (ne_eqb p.lead n other) (append-nil (filter (has_lead n) packets))

own-none : (n : ℕ) (packets : List Arrival) → Each (λ p. p.lead ≢ n) packets → filter (has_lead n) packets ≡ []
own-none n packets other = filter-none (has_lead n) packets (Each-if (λ p. p.lead ≢ n) (λ p. has_lead n p ≡ false) packets (λ p different. ne_eqb p.lead n different) other)

-- a row without a lead has no packets
pub own-new : (taken : ℕ) (packets : List Arrival) → Each (IsLedUpTo taken) packets → filter (has_lead 0) packets ≡ []
own-new taken packets leads = own-none 0 packets (Each-if (IsLedUpTo taken) (λ p. p.lead ≢ 0) packets (λ p led. λ same. absurd (let some = led.some in omega (arith, some, same))) leads)

own-later : (taken : ℕ) (packets : List Arrival) → Each (IsLedUpTo taken) packets → filter (has_lead (suc taken)) packets ≡ []
own-later taken packets leads = own-none (suc taken) packets (Each-if (IsLedUpTo taken) (λ p. p.lead ≢ suc taken) packets (λ p led. λ same. absurd (let upto = led.upto in omega (arith, upto, same))) leads)

-- the packets of a row that takes one more
own-taken : (taken lead : ℕ) (packets : List Arrival) (p : Arrival) → Each (IsLedUpTo taken) packets → p.lead ≡ lead_with lead (suc taken) → filter (has_lead (lead_with lead (suc taken))) (packets ++ p ∷ []) ≡ filter (has_lead lead) packets ++ p ∷ []
own-taken taken lead packets p leads same =
    own-more (lead_with lead (suc taken)) packets p same ∙ ap (λ own. own ++ p ∷ []) (⊎_elim
    (λ (new : (lead ≡ 0) × (lead_with lead (suc taken) ≡ suc taken)).
    ap (λ n. filter (has_lead n) packets) new.1 ∙ own-later taken packets leads ∙ sym (ap (λ n. filter (has_lead n) packets) new.0 ∙ own-new taken packets leads))
    (λ (old : (1 ≤ lead) × (lead_with lead (suc taken) ≡ lead)). ap (λ n. filter (has_lead n) packets) old.1)
    (lead-cases lead (suc taken)))

-- ---- the head of the rows goes beside them

-- a row is apart from one with a packet more
apart-taken : (taken : ℕ) (row after other : Row) → other.lead ≤ taken → after.lead ≡ lead_with row.lead (suc taken) → IsApart other row → IsApart other after
apart-taken taken row after other upto lead apart same =
    ⊎_elim
    (λ (new : (row.lead ≡ 0) × (lead_with row.lead (suc taken) ≡ suc taken)). absurd (omega (arith, upto, lead, new.1, same)))
    (λ (old : (1 ≤ row.lead) × (lead_with row.lead (suc taken) ≡ row.lead)). apart (sym old.1 ∙ sym lead ∙ same))
    (lead-cases row.lead (suc taken))

-- and the other way round
taken-apart : (taken : ℕ) (row after other : Row) → other.lead ≤ taken → after.lead ≡ lead_with row.lead (suc taken) → IsApart row other → IsApart after other
taken-apart taken row after other upto lead apart same =
    ⊎_elim
    (λ (new : (row.lead ≡ 0) × (lead_with row.lead (suc taken) ≡ suc taken)). absurd (omega (arith, upto, lead, new.1, same)))
    (λ (old : (1 ≤ row.lead) × (lead_with row.lead (suc taken) ≡ row.lead)). absurd (let zeroth = apart (same ∙ lead ∙ old.1) in let some = old.0 in omega (arith, zeroth, some)))
    (lead-cases row.lead (suc taken))

-- the packet is none of the other row's
lead-other : (taken lead : ℕ) (p : Arrival) (row other : Row) → other.lead ≤ taken → p.lead ≡ lead_with row.lead (suc taken) → (1 ≤ row.lead → row.lead ≢ other.lead) → p.lead ≢ other.lead
lead-other taken lead p row other upto is apart same =
    ⊎_elim
    (λ (new : (row.lead ≡ 0) × (lead_with row.lead (suc taken) ≡ suc taken)). absurd (omega (arith, upto, is, new.1, same)))
    (λ (old : (1 ≤ row.lead) × (lead_with row.lead (suc taken) ≡ row.lead)). apart old.0 (sym old.1 ∙ sym is ∙ same))
    (lead-cases row.lead (suc taken))

module _ (P Q : Row → List Arrival → Type 0) (packets : List Arrival) (others rows : List Row) (row after : Row) where
  -- the head of the rows takes a packet, and goes beside the others
  pub stand-takes : (p : Arrival) (place : ℕ) → suc (length packets) ≡ place → after.lead ≡ lead_with row.lead place → p.lead ≡ lead_with row.lead place → P after (own_packets row packets ++ p ∷ []) → RowsStand P Q packets others (row ∷ rows) → RowsStand P Q (packets ++ p ∷ []) (after ∷ others) rows
  stand-takes p place next lead is fact stand =
      let lead' : after.lead ≡ lead_with row.lead (suc (length packets)) = lead ∙ ap (lead_with row.lead) (sym next) in
      let is' : p.lead ≡ lead_with row.lead (suc (length packets)) = is ∙ ap (lead_with row.lead) (sym next) in
      let more : length (packets ++ p ∷ []) ≡ length packets + 1 = length_push packets p in
      let own : own_packets after (packets ++ p ∷ []) ≡ own_packets row packets ++ p ∷ [] =
      ap (λ n. filter (has_lead n) (packets ++ p ∷ [])) lead' ∙ own-taken (length packets) row.lead packets p stand.leads is' in
      let upto = stand.held.0.upto in
      let bounds = lead-bounds row.lead (length packets) upto in
      record {
        leads = Each-append (IsLedUpTo (length (packets ++ p ∷ []))) packets (p ∷ [])
            (Each-if (IsLedUpTo (length packets)) (IsLedUpTo (length (packets ++ p ∷ []))) packets (λ q led. record { some = led.some; upto = (let h = led.upto in omega (arith, h, more)) }) stand.leads)
            (record { some = omega (arith, is', bounds); upto = omega (arith, is', bounds, more) }, tt);
        beside = (
          record {
            fact = subst (P after) (sym own) fact;
            upto = omega (arith, lead', bounds, more);
            apart = Each-if (λ other. IsHeld Q packets other × IsApart row other) (IsApart after) rows (λ other both. (let under = both.0.upto in taken-apart (length packets) row after other under lead' both.1)) (Each-both (IsHeld Q packets) (IsApart row) rows stand.held.1 stand.apart.0);
          },
          Each-if (IsBeside P packets (row ∷ rows)) (IsBeside P (packets ++ p ∷ []) rows) others (λ other beside. record {
            fact = subst (P other) (sym (own-same other.lead packets p (lead-other (length packets) row.lead p row other beside.upto is' (λ some same. (let zeroth = beside.apart.0 same in omega (arith, some, same, zeroth)))))) beside.fact;
            upto = (let under = beside.upto in omega (arith, under, more));
            apart = beside.apart.1;
          }) stand.beside,
        );
        held = Each-if (λ other. IsHeld Q packets other × IsApart row other) (IsHeld Q (packets ++ p ∷ [])) rows (λ other both. record {
          fact = subst (Q other) (sym (own-same other.lead packets p (lead-other (length packets) row.lead p row other both.0.upto is' (λ some same. (let zeroth = both.1 (sym same) in omega (arith, some, zeroth)))))) both.0.fact;
          upto = (let under = both.0.upto in omega (arith, under, more));
        }) (Each-both (IsHeld Q packets) (IsApart row) rows stand.held.1 stand.apart.0);
        apart = stand.apart.1;
      } where
        lead-bounds : (lead taken : ℕ) → lead ≤ taken → (1 ≤ lead_with lead (suc taken)) × (lead_with lead (suc taken) ≤ suc taken)
        lead-bounds lead taken upto =
            ⊎_elim
            (λ (new : (lead ≡ 0) × (lead_with lead (suc taken) ≡ suc taken)). (let e = new.1 in (omega (arith, e), omega (arith, e))))
            (λ (old : (1 ≤ lead) × (lead_with lead (suc taken) ≡ lead)). (let e = old.1 in let some = old.0 in (omega (arith, e, some), omega (arith, e, upto))))
            (lead-cases lead (suc taken))

  -- those beside are apart from it then
  pub takes-apart : (place : ℕ) → suc (length packets) ≡ place → after.lead ≡ lead_with row.lead place → RowsStand P Q packets others (row ∷ rows) → Each (λ other. IsApart other after) others
  takes-apart place next lead stand =
      Each-if (IsBeside P packets (row ∷ rows)) (λ other. IsApart other after) others
      (λ other beside. apart-taken (length packets) row after other beside.upto (lead ∙ ap (lead_with row.lead) (sym next)) beside.apart.0) stand.beside

  -- the head of the rows goes beside the others without a packet
  pub stand-rests : after.lead ≡ row.lead → P after (own_packets row packets) → RowsStand P Q packets others (row ∷ rows) → RowsStand P Q packets (after ∷ others) rows
  stand-rests lead fact stand =
      record {
        leads = stand.leads;
        beside = (
          record {
            fact = subst (λ n. P after (filter (has_lead n) packets)) (sym lead) fact;
            upto = (let under = stand.held.0.upto in omega (arith, under, lead));
            apart = Each-if (IsApart row) (IsApart after) rows (λ other apart same. lead ∙ apart (same ∙ lead)) stand.apart.0;
          },
          Each-if (IsBeside P packets (row ∷ rows)) (IsBeside P packets rows) others (λ other beside. record { fact = beside.fact; upto = beside.upto; apart = beside.apart.1 }) stand.beside,
        );
        held = stand.held.1;
        apart = stand.apart.1;
      }

  -- those beside are apart from it then
  pub rests-apart : after.lead ≡ row.lead → RowsStand P Q packets others (row ∷ rows) → Each (λ other. IsApart other after) others
  rests-apart lead stand =
      Each-if (IsBeside P packets (row ∷ rows)) (λ other. IsApart other after) others (λ other beside same. beside.apart.0 (sym lead ∙ same)) stand.beside

-- one of those beside goes back to the head of the rows
pub stand-back : (P : Row → List Arrival → Type 0) (packets : List Arrival) (others rows : List Row) (row : Row) → Each (λ other. IsApart other row) others → RowsStand P P packets (row ∷ others) rows → RowsStand P P packets others (row ∷ rows)
stand-back P packets others rows row apart stand =
    record {
      leads = stand.leads;
      beside = Each-if (λ other. IsBeside P packets rows other × IsApart other row) (IsBeside P packets (row ∷ rows)) others
          (λ other both. record { fact = both.0.fact; upto = both.0.upto; apart = (both.1, both.0.apart) })
          (Each-both (IsBeside P packets rows) (λ other. IsApart other row) others stand.beside.1 apart);
      held = (record { fact = stand.beside.0.fact; upto = stand.beside.0.upto }, stand.held);
      apart = (stand.beside.0.apart, stand.apart);
    }

-- ---- the sources of a tick

-- what the rows after the head come to
abbrev Onward : (Row → List Arrival → Type 0) → (Row → List Arrival → Type 0) → List ℕ → List Arrival → ℕ → List Row → Type 0
Onward P Q bounds here t rows = (others : List Row) (packets : List Arrival) (taken : ℕ) → length packets ≡ taken → RowsStand P Q packets others rows → RowsStand P P (packets ++ source_packets bounds here t taken rows) others (rows_after bounds here t taken rows)

module _ (P Q : Row → List Arrival → Type 0) (bounds : List ℕ) (here : List Arrival) (t : ℕ) where
  -- a row whose source brings nothing that is taken
  onward-rests : (rows : List Row) → Onward P Q bounds here t rows → (others : List Row) (packets : List Arrival) (taken : ℕ) (row after : Row) → length packets ≡ taken → after.lead ≡ row.lead → P after (own_packets row packets ++ []) → RowsStand P Q packets others (row ∷ rows) → RowsStand P P (packets ++ source_packets bounds here t (taken + 0) rows) others (after ∷ rows_after bounds here t (taken + 0) rows)
  onward-rests rows onward others packets taken row after count lead fact stand =
      stand-back P (packets ++ source_packets bounds here t (taken + 0) rows) others (rows_after bounds here t (taken + 0) rows) after (rests-apart P Q packets others rows row after lead stand)
      (onward (after ∷ others) packets (taken + 0) (omega (arith, count)) (stand-rests P Q packets others rows row after lead (subst (P after) (append-nil (own_packets row packets)) fact) stand))

  -- a row that takes a packet
  onward-takes : (rows : List Row) → Onward P Q bounds here t rows → (others : List Row) (packets : List Arrival) (taken : ℕ) (row after : Row) (p : Arrival) → length packets ≡ taken → after.lead ≡ lead_with row.lead (suc taken) → p.lead ≡ lead_with row.lead (suc taken) → P after (own_packets row packets ++ p ∷ []) → RowsStand P Q packets others (row ∷ rows) → RowsStand P P (packets ++ (p ∷ [] ++ source_packets bounds here t (taken + 1) rows)) others (after ∷ rows_after bounds here t (taken + 1) rows)
  onward-takes rows onward others packets taken row after p count lead is fact stand =
      subst (λ all. RowsStand P P all others (after ∷ rows_after bounds here t (taken + 1) rows)) (append_assoc packets (p ∷ []) (source_packets bounds here t (taken + 1) rows))
      (stand-back P ((packets ++ p ∷ []) ++ source_packets bounds here t (taken + 1) rows) others (rows_after bounds here t (taken + 1) rows) after
      (takes-apart P Q packets others rows row after (suc taken) (ap suc count) lead stand)
      (onward (after ∷ others) (packets ++ p ∷ []) (taken + 1) (length_push packets p ∙ omega (arith, count))
      (stand-takes P Q packets others rows row after p (suc taken) (ap suc count) lead is fact stand)))

  -- where the step of each row's source leads from Q to P
  pub stand-sources : ((row : Row) (own : List Arrival) (place : ℕ) → Q row own → P (row_after (step_of bounds here t row) t place row) (own ++ packet_of (step_of bounds here t row) t place row)) → (rows : List Row) → Onward P Q bounds here t rows
  unfolding source_packets rows_after
  stand-sources step [] others packets taken count stand =
      rw (append-nil packets) (record { leads = stand.leads; beside = stand.beside; held = tt; apart = tt })
  stand-sources step (row ∷ rows) others packets taken count stand =
      by-step (stand-sources step rows) (step_of bounds here t row) (step row (own_packets row packets) (suc taken) stand.held.0.fact) where
        by-step : Onward P Q bounds here t rows → (s : SourceStep) → P (row_after s t (suc taken) row) (own_packets row packets ++ packet_of s t (suc taken) row) → RowsStand P P (packets ++ (packet_of s t (suc taken) row ++ source_packets bounds here t (taken + taken_by s) rows)) others (row_after s t (suc taken) row ∷ rows_after bounds here t (taken + taken_by s) rows)
        by-step onward (Brings size) fact =
            onward-takes rows onward others packets taken row (row_after (Brings size) t (suc taken) row) (arrival_at row.terms row.lead (suc taken) (suc (length row.ticks)) size t (source_tick row t)) count refl refl fact stand
        by-step onward Rests fact = onward-rests rows onward others packets taken row row count refl fact stand
        by-step onward Drops fact = onward-rests rows onward others packets taken row (row_after Drops t (suc taken) row) count refl fact stand
