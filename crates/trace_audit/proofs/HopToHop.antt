-- The rows at one hop of a channel, and those at the next: the eligible ticks at a hop keep the contract; and at the next hop each
-- packet is eligible no later than when it is due, and under delay-jitter control no sooner.
use Rattle.std.proofs.Common.{◌≡◌, ℕ, suc, ◌+◌, ◌<◌, ◌≤◌, true, false, List, [], ◌∷◌, ◌++◌, length, get_or, max, Option, Some, refl, sym, ap, ◌∙◌, subst, inl, inr, arith}
use Rattle.std.proofs.lemmas.Bool.{cases_Bool, cases_lt, eqb-true, leb-true, and_parts, eq-eqb, ne_eqb, and_right}
use Rattle.std.proofs.lemmas.List.{get_or_append_left, get_or_push, length_push, length-reverse, length-map, reverse-append}
use Rattle.std.proofs.lemmas.Option.{same_Some}
use Rattle.std.specs.Prelude.{nat_eq, nat_le, reverse}
use Rattle.net_units.specs.Numbers.{link_number, channel_number}
use Rattle.net_units.specs.Quotient.{ceil_quotient}
use Rattle.net_units.specs.declared.Kind.{Kind}
use Rattle.net_units.specs.declared.Kind.TheVariants.{Rate, Jitter}
use Rattle.net_units.specs.declared.levels.Levels.{Levels}
use Rattle.traffic_contract.specs.Contract.{IsContract}
use Rattle.traffic_contract.specs.Eligible.{eligible, earliest_tick}
use Rattle.traffic_contract.specs.Keeping.{Keeps}
use Rattle.traffic_contract.proofs.BurstIsPositive.{burst-least}
use Rattle.traffic_contract.proofs.LeastEligibleTick.{eligible-is}
use Rattle.call_script.specs.Parts.{PlanParts}
use Rattle.run_engine.specs.channels.Paths.{IsBehind}
use Rattle.run_engine.proofs.Delays.HopStep.{eligible-after, after-more, after-longer}
use Rattle.run_record.specs.declared.rows.HopRow.{HopRow}
use Rattle.trace_audit.specs.Above.{is_at, rows_at, ticks_above, tick_of, hop_before}
use Rattle.trace_audit.specs.Checks.{arrives, arrives_from, fits_size, has_size_of, is_eligible, is_within_bound, may_go_from, AllPass}
use Rattle.trace_audit.specs.declared.terms.Terms.{Terms}
use Rattle.trace_audit.specs.Terms.{terms_at}
use Rattle.trace_audit.proofs.RowTerms.{row-known}
use Rattle.trace_audit.proofs.PassingRow.{passes-told}
use Rattle.trace_audit.proofs.TableInOrder.{at-parts, near-row, numbered, IsNear, RowsAreNumbered}

-- ---- a row at a hop

pub record IsRowAt (terms : Terms) (c hop : ℕ) (above : List HopRow) (row : HopRow) : Type 0 where
  pub link : link_number terms.link ≡ link_number row.link
  pub size_least : 1 ≤ row.size
  pub size_most : row.size ≤ terms.contract.smax
  pub size_before : has_size_of (hop_before above row) row ≡ true
  pub arrive : arrives_from terms above row (hop_before above row) ≡ true
  pub eligible : row.eligible ≡ eligible terms.contract (ticks_above c hop above) (may_go_from terms row (hop_before above row))
  pub least : row.eligible + ceil_quotient row.size terms.rate ≤ row.departed
  pub most : row.departed ≤ row.eligible + terms.bound

pub row-at : (plan : PlanParts) (levels : List (Option Levels)) (c i : ℕ) (terms : Terms) (above : List HopRow) (row : HopRow) → AllPass plan levels (row ∷ above) → terms_at plan levels c i ≡ Some terms → is_at c (suc i) row ≡ true → IsRowAt terms c (suc i) above row
unfolding AllPass fits_size arrives is_eligible is_within_bound
row-at plan levels c i terms above row all has at =
    let passes = passes-told plan levels above row all.1 in
    let known = row-known plan levels row passes.terms passes.known in
    let parts = at-parts c (suc i) row at in
    let place = known.place in
    let hop = parts.1 in
    let index : known.index ≡ i = omega (arith, place, hop) in
    let found : terms_at plan levels c i ≡ Some passes.terms = ap (λ k. terms_at plan levels c k) (sym index) ∙ ap (λ n. terms_at plan levels n known.index) (sym parts.0) ∙ known.at in
    let same : passes.terms ≡ terms = same_Some passes.terms terms (sym found ∙ has) in
    let sizes = and_parts _ _ passes.size in
    let two = and_parts (nat_le 1 row.size) (nat_le row.size passes.terms.contract.smax) sizes.0 in
    let bounds = and_parts (nat_le (row.eligible + ceil_quotient row.size passes.terms.rate) row.departed) (nat_le row.departed (row.eligible + passes.terms.bound)) passes.bound in
    let own : IsRowAt passes.terms c (suc i) above row = record {
      link = known.link;
      size_least = leb-true 1 row.size two.0;
      size_most = leb-true row.size passes.terms.contract.smax two.1;
      size_before = sizes.1;
      arrive = passes.arrive;
      eligible = eqb-true row.eligible (eligible passes.terms.contract (ticks_above (channel_number row.chan) row.hop above) (may_go_from passes.terms row (hop_before above row))) passes.eligible
          ∙ ap (λ n. eligible passes.terms.contract (ticks_above n row.hop above) (may_go_from passes.terms row (hop_before above row))) parts.0
          ∙ ap (λ h. eligible passes.terms.contract (ticks_above c h above) (may_go_from passes.terms row (hop_before above row))) parts.1;
      least = leb-true (row.eligible + ceil_quotient row.size passes.terms.rate) row.departed bounds.0;
      most = leb-true row.departed (row.eligible + passes.terms.bound) bounds.1;
    } in
    subst (λ t. IsRowAt t c (suc i) above row) same own

-- ---- the eligible ticks at a hop, in the order of time

abbrev pub ticks_in : ℕ → ℕ → List HopRow → List ℕ
ticks_in c hop rows = reverse (ticks_above c hop rows)

pub ticks-more : (c hop : ℕ) (row : HopRow) (above : List HopRow) → is_at c hop row ≡ true → ticks_in c hop (row ∷ above) ≡ ticks_in c hop above ++ row.eligible ∷ []
ticks-more c hop row above at = rw at (reverse-append (row.eligible ∷ []) (ticks_above c hop above))

pub ticks-same : (c hop : ℕ) (row : HopRow) (above : List HopRow) → is_at c hop row ≡ false → ticks_in c hop (row ∷ above) ≡ ticks_in c hop above
ticks-same c hop row above off = rw off refl

pub ticks-count : (c hop : ℕ) (rows : List HopRow) → length (ticks_in c hop rows) ≡ length (rows_at c hop rows)
ticks-count c hop rows = length-reverse (ticks_above c hop rows) ∙ length-map (rows_at c hop rows) tick_of

-- the tick of the newest row there
pub newest-tick : (c hop : ℕ) (near : HopRow) (rest : List HopRow) → is_at c hop near ≡ true → get_or (ticks_in c hop (near ∷ rest)) (length (rows_at c hop rest)) 0 ≡ near.eligible
newest-tick c hop near rest at = ap (λ ts. get_or ts (length (rows_at c hop rest)) 0) (ticks-more c hop near rest at) ∙ get_or_push (ticks_in c hop rest) near.eligible 0 (length (rows_at c hop rest)) (ticks-count c hop rest)

pub ticks-keep : (plan : PlanParts) (levels : List (Option Levels)) (c i : ℕ) (terms : Terms) (rows : List HopRow) → AllPass plan levels rows → terms_at plan levels c i ≡ Some terms → IsContract terms.contract → Keeps terms.contract (ticks_in c (suc i) rows)
unfolding AllPass
ticks-keep plan levels c i terms [] all has valid = record {
  neighbours = record { apart = λ k within. absurd (omega arith) };
  bursts = record { apart = λ k within. absurd (omega arith) };
}
ticks-keep plan levels c i terms (row ∷ above) all has valid =
    let rest : Keeps terms.contract (ticks_in c (suc i) above) = ticks-keep plan levels c i terms above all.0 has valid in
    elim (cases_Bool (is_at c (suc i) row)) [
      | inl at ↦
          (let own = row-at plan levels c i terms above row all has at in
          let is = eligible-is terms.contract (ticks_above c (suc i) above) (may_go_from terms row (hop_before above row)) valid (burst-least terms.contract valid) rest in
          subst (Keeps terms.contract) (sym (ticks-more c (suc i) row above at))
          (subst (λ e. Keeps terms.contract (ticks_in c (suc i) above ++ e ∷ [])) (sym own.eligible) is.holds))
      | inr off ↦ subst (Keeps terms.contract) (sym (ticks-same c (suc i) row above off)) rest
    ]

-- ---- the next hop

-- the terms of two hops, one after the other
pub record AreNext (near terms : Terms) : Type 0 where
  pub valid : IsContract terms.contract
  pub contract : near.contract ≡ terms.contract
  pub bound : near.bound ≡ terms.bound_before

pub record IsTimed (terms : Terms) (before ticks : List ℕ) : Type 0 where
  pub after : IsBehind (terms.bound_before + terms.prop_before) before ticks
  pub paced : terms.kind ≡ Jitter → (k : ℕ) → k < length ticks → get_or before k 0 + (terms.bound_before + terms.prop_before) ≤ get_or ticks k 0

timed-none : (terms : Terms) → IsTimed terms [] []
timed-none terms = record {
  after = record { fewer = omega arith; after = λ k within. absurd (omega (arith, within)) };
  paced = λ is k within. absurd (omega (arith, within));
}

-- the hop before takes one more
timed-longer : (terms : Terms) (e : ℕ) (before ticks : List ℕ) → IsTimed terms before ticks → IsTimed terms (before ++ e ∷ []) ticks
timed-longer terms e before ticks timed =
    let fewer = timed.after.fewer in
    record {
      after = after-longer (terms.bound_before + terms.prop_before) e before ticks timed.after;
      paced = λ is k within. (let left = get_or_append_left before (e ∷ []) 0 k (omega (arith, fewer, within)) in let h = timed.paced is k within in omega (arith, left, h));
    }

-- so does this one
timed-more : (terms : Terms) (e : ℕ) (before ticks : List ℕ) → length ticks < length before → IsTimed terms before ticks → e ≤ get_or before (length ticks) 0 + (terms.bound_before + terms.prop_before) → (terms.kind ≡ Jitter → get_or before (length ticks) 0 + (terms.bound_before + terms.prop_before) ≤ e)
    → IsTimed terms before (ticks ++ e ∷ [])
timed-more terms e before ticks more timed under exact =
    let count = length_push ticks e in
    record {
      after = after-more (terms.bound_before + terms.prop_before) e before ticks more timed.after under;
      paced = λ is k within. elim (cases_lt k (length ticks)) [
        | inl inside ↦ (let left = get_or_append_left ticks (e ∷ []) 0 k inside in let h = timed.paced is k inside in omega (arith, left, h))
        | inr last ↦ (let e' : length ticks ≡ k = omega (arith, within, count, last) in let same : get_or before (length ticks) 0 ≡ get_or before k 0 = ap (λ j. get_or before j 0) e' in let right = get_or_push ticks e 0 k e' in let h = exact is in omega (arith, right, h, same))
      ];
    }

-- where its packet may go from, against when it is due
low-most : (terms : Terms) (near row : HopRow) (above : List HopRow) → hop_before above row ≡ Some near → arrives_from terms above row (hop_before above row) ≡ true → near.departed ≤ near.eligible + terms.bound_before → may_go_from terms row (hop_before above row) ≤ near.eligible + (terms.bound_before + terms.prop_before)
low-most terms near row above found arrive most =
    let at : row.at ≡ near.departed + terms.prop_before = eqb-true row.at (near.departed + terms.prop_before) (rw found at arrive) in
    let same : may_go_from terms row (hop_before above row) ≡ may_go_from terms row (Some near) = ap (may_go_from terms row) found in
    by-kind terms.kind refl (omega (arith, at, most)) same where
      by-kind : (kind : Kind) → terms.kind ≡ kind → row.at ≤ near.eligible + (terms.bound_before + terms.prop_before) → may_go_from terms row (hop_before above row) ≡ may_go_from terms row (Some near) → may_go_from terms row (hop_before above row) ≤ near.eligible + (terms.bound_before + terms.prop_before)
      by-kind Rate is early same = (let e : may_go_from terms row (Some near) ≡ row.at = ap (λ k. earliest_tick k row.at (near.eligible + terms.bound_before + terms.prop_before)) is in omega (arith, e, early, same))
      by-kind Jitter is early same = (let e : may_go_from terms row (Some near) ≡ max row.at (near.eligible + terms.bound_before + terms.prop_before) = ap (λ k. earliest_tick k row.at (near.eligible + terms.bound_before + terms.prop_before)) is in omega (arith, e, early, same))

low-least : (terms : Terms) (near row : HopRow) (above : List HopRow) → hop_before above row ≡ Some near → terms.kind ≡ Jitter → near.eligible + (terms.bound_before + terms.prop_before) ≤ may_go_from terms row (hop_before above row)
low-least terms near row above found is =
    let same : may_go_from terms row (hop_before above row) ≡ may_go_from terms row (Some near) = ap (may_go_from terms row) found in
    let e : may_go_from terms row (Some near) ≡ max row.at (near.eligible + terms.bound_before + terms.prop_before) = ap (λ k. earliest_tick k row.at (near.eligible + terms.bound_before + terms.prop_before)) is in
    omega (arith, same, e)

-- a row at the next hop is of the packet that is the newest at the hop before
row-timed : (plan : PlanParts) (levels : List (Option Levels)) (c i : ℕ) (near_terms terms : Terms) (above : List HopRow) (row : HopRow) → AllPass plan levels (row ∷ above) → terms_at plan levels c i ≡ Some near_terms → terms_at plan levels c (suc i) ≡ Some terms → AreNext near_terms terms → is_at c (suc (suc i)) row ≡ true
    → IsTimed terms (ticks_in c (suc i) above) (ticks_in c (suc (suc i)) above) → IsTimed terms (ticks_in c (suc i) above) (ticks_in c (suc (suc i)) above ++ row.eligible ∷ [])
unfolding AllPass
row-timed plan levels c i near_terms terms above row all has_near has next at timed =
    let own = row-at plan levels c (suc i) terms above row all has at in
    let parts = at-parts c (suc (suc i)) row at in
    let far = parts.1 in
    by-near (near-row plan levels above row all (omega (arith, far))) own parts where
      by-near : ((near : HopRow) × IsNear above row near) → IsRowAt terms c (suc (suc i)) above row → (channel_number row.chan ≡ c) × (row.hop ≡ suc (suc i)) → IsTimed terms (ticks_in c (suc i) above) (ticks_in c (suc (suc i)) above ++ row.eligible ∷ [])
      by-near (near, is) own parts =
          let near_hop : near.hop ≡ suc i = (let a = is.hop in let b = parts.1 in omega (arith, a, b)) in
          let near_at : is_at c (suc i) near ≡ true = and-at near (is.chan ∙ parts.0) near_hop in
          let all_near : AllPass plan levels (near ∷ is.rest) = subst (AllPass plan levels) is.is all.0 in
          let near_own = row-at plan levels c i near_terms is.rest near all_near has_near near_at in
          let keeps = ticks-keep plan levels c i near_terms above all.0 has_near (subst IsContract (sym next.contract) next.valid) in
          let keeps_far = ticks-keep plan levels c (suc i) terms above all.0 has next.valid in
          -- as many have passed the hop before as this one has with the row
          let near_count : near.number ≡ suc (length (rows_at c (suc i) is.rest)) = first-number near is.rest near_at (subst RowsAreNumbered (ap (rows_at c (suc i)) is.is) (numbered plan levels above all.0 c (suc i))) in
          let far_count : row.number ≡ suc (length (rows_at c (suc (suc i)) above)) = row-number (numbered plan levels (row ∷ above) all c (suc (suc i))) in
          let counted : length (rows_at c (suc i) is.rest) ≡ length (ticks_in c (suc (suc i)) above) = (let n = is.number in let t = ticks-count c (suc (suc i)) above in omega (arith, near_count, far_count, n, t)) in
          let tick : get_or (ticks_in c (suc i) above) (length (ticks_in c (suc (suc i)) above)) 0 ≡ near.eligible =
          ap (λ n. get_or (ticks_in c (suc i) above) n 0) (sym counted) ∙ ap (λ rs. get_or (ticks_in c (suc i) rs) (length (rows_at c (suc i) is.rest)) 0) is.is ∙ newest-tick c (suc i) near is.rest near_at in
          let long : length (ticks_in c (suc i) above) ≡ suc (length (rows_at c (suc i) is.rest)) = ap (λ rs. length (ticks_in c (suc i) rs)) is.is ∙ ticks-count c (suc i) (near ∷ is.rest) ∙ more near is.rest near_at in
          let most : near.departed ≤ near.eligible + terms.bound_before = (let m = near_own.most in let b = next.bound in omega (arith, m, b)) in
          let low = low-most terms near row above is.found own.arrive most in
          let elig = eligible-is terms.contract (ticks_above c (suc (suc i)) above) (may_go_from terms row (hop_before above row)) next.valid (burst-least terms.contract next.valid) keeps_far in
          let shift : ℕ = terms.bound_before + terms.prop_before in
          let e_is = own.eligible in
          let under = eligible-after terms.contract (ticks_in c (suc i) above) (ticks_in c (suc (suc i)) above) (terms.bound_before + terms.prop_before) (may_go_from terms row (hop_before above row)) (eligible terms.contract (ticks_above c (suc (suc i)) above) (may_go_from terms row (hop_before above row))) (burst-least terms.contract next.valid) (subst (λ k. Keeps k (ticks_in c (suc i) above)) next.contract keeps) keeps_far (omega (arith, long, counted)) timed.after (omega (arith, tick, low)) elig in
          timed-more terms row.eligible (ticks_in c (suc i) above) (ticks_in c (suc (suc i)) above) (omega (arith, long, counted)) timed (omega (arith, e_is, under)) (λ jitter. (let least = low-least terms near row above is.found jitter in let r = elig.reached in omega (arith, least, r, e_is, tick))) where
            and-at : (near : HopRow) → channel_number near.chan ≡ c → near.hop ≡ suc i → is_at c (suc i) near ≡ true
            and-at near chan hop = (let a = eq-eqb (channel_number near.chan) c chan in let b = eq-eqb near.hop (suc i) hop in rw (a, b) refl)

            first-number : (near : HopRow) (rest : List HopRow) → is_at c (suc i) near ≡ true → RowsAreNumbered (rows_at c (suc i) (near ∷ rest)) → near.number ≡ suc (length (rows_at c (suc i) rest))
            first-number near rest at are = (rw at at are).0

            row-number : RowsAreNumbered (rows_at c (suc (suc i)) (row ∷ above)) → row.number ≡ suc (length (rows_at c (suc (suc i)) above))
            row-number are = (rw at at are).0

            more : (near : HopRow) (rest : List HopRow) → is_at c (suc i) near ≡ true → length (rows_at c (suc i) (near ∷ rest)) ≡ suc (length (rows_at c (suc i) rest))
            more near rest at = rw at refl

pub hops-timed : (plan : PlanParts) (levels : List (Option Levels)) (c i : ℕ) (near_terms terms : Terms) (rows : List HopRow) → AllPass plan levels rows → terms_at plan levels c i ≡ Some near_terms → terms_at plan levels c (suc i) ≡ Some terms → AreNext near_terms terms
    → IsTimed terms (ticks_in c (suc i) rows) (ticks_in c (suc (suc i)) rows)
unfolding AllPass
hops-timed plan levels c i near_terms terms [] all has_near has next = timed-none terms
hops-timed plan levels c i near_terms terms (row ∷ above) all has_near has next =
    let rest = hops-timed plan levels c i near_terms terms above all.0 has_near has next in
    elim (cases_Bool (is_at c (suc (suc i)) row)) [
      | inl at ↦
          (let hop = (at-parts c (suc (suc i)) row at).1 in
          let off : is_at c (suc i) row ≡ false = not-both c (suc i) row (omega (arith, hop)) in
          subst (λ ts. IsTimed terms ts (ticks_in c (suc (suc i)) (row ∷ above))) (sym (ticks-same c (suc i) row above off))
          (subst (IsTimed terms (ticks_in c (suc i) above)) (sym (ticks-more c (suc (suc i)) row above at))
          (row-timed plan levels c i near_terms terms above row all has_near has next at rest)))
      | inr off ↦
          subst (IsTimed terms (ticks_in c (suc i) (row ∷ above))) (sym (ticks-same c (suc (suc i)) row above off))
          (elim (cases_Bool (is_at c (suc i) row)) [
            | inl at ↦ subst (λ ts. IsTimed terms ts (ticks_in c (suc (suc i)) above)) (sym (ticks-more c (suc i) row above at)) (timed-longer terms row.eligible _ _ rest)
            | inr none ↦ subst (λ ts. IsTimed terms ts (ticks_in c (suc (suc i)) above)) (sym (ticks-same c (suc i) row above none)) rest
          ])
    ] where
      not-both : (c hop : ℕ) (row : HopRow) → hop < row.hop → is_at c hop row ≡ false
      not-both c hop row more = (let n = ne_eqb row.hop hop (λ e. omega (arith, e, more)) in and_right (nat_eq (channel_number row.chan) c) (nat_eq row.hop hop) n)
