-- The table of departures as they are in a run is sound.
use Rattle.std.proofs.Common.{◌≡◌, ℕ, suc, ◌+◌, ◌-◌, ◌<◌, ◌≤◌, true, false, ◌||◌, ◌⊎◌, List, [], ◌∷◌, ◌++◌, length, map, take, Option, Some, None, refl, sym, ap, ◌∙◌, subst, inl, inr, arith}
use Rattle.std.proofs.lemmas.Bool.{cases_Bool, cases_eq, eq-eqb, ne_eqb, le-leb, leb-false, lt-ltb, and_from, or_left, or_right}
use Rattle.std.proofs.lemmas.List.{append-nil, append_assoc, reverse-append, reverse-reverse, length-reverse, length-map, take_at, map-append}
use Rattle.std.specs.Prelude.{nat_le, reverse}
use Rattle.std.proofs.lemmas.List.Elements.{filter-append}
use Rattle.net_units.specs.Numbers.{channel_number}
use Rattle.net_units.specs.declared.levels.Levels.{Levels}
use Rattle.traffic_contract.specs.Eligible.{eligible}
use Rattle.link_steps.specs.Lists.{Each, Among}
use Rattle.link_steps.proofs.SearchAndFilter.{Among-filter, Each-among}
use Rattle.link_steps.proofs.ListParts.{Among-left, Among-right, Among-reverse, Among-turned, Each-parts}
use Rattle.link_steps.proofs.FoundElements.{Each-from_among}
use Rattle.link_steps.proofs.PacketRows.{Among-passes}
use Rattle.call_script.specs.Parts.{PlanParts}
use Rattle.run_record.specs.Rows.{in_order}
use Rattle.run_record.specs.declared.rows.HopRow.{HopRow}
use Rattle.trace_audit.specs.Above.{is_at, rows_at, row_at, ticks_above, tick_of, hop_before, packet_before}
use Rattle.trace_audit.specs.Checks.{is_there, goes_on, is_next_packet, follows_row, follows, is_in_order, has_size_of, fits_size, is_not_sooner, arrives_from, arrives, may_go_from, is_eligible, fault_with, fault_under, fault_of, AllPass}
use Rattle.run_engine.specs.channels.Departures.{AreCounted}
use Rattle.trace_audit.specs.Departures.{HasNear, IsDeparture, AreDepartures}
use Rattle.trace_audit.proofs.TableInOrder.{IsBelow, RowsAreNumbered, at-parts, near-found, none-before, found-among}
use Rattle.trace_audit.proofs.WholeRoute.{filter-reverse}
use Rattle.trace_audit.proofs.SortedRows.{Climbs, AllRise, counted-above, counted-rise, rise-apart, order-climbs, order-among, among-order, rows-stay, not-both, one-place, is-own}
use Rattle.trace_audit.proofs.KeptMatchesRows.{there-found}
use Rattle.trace_audit.proofs.RowTerms.{row-known}
use Rattle.run_engine.proofs.Keeping.Lookups.{map-reverse}

-- ---- a table cut at a row

climbs-parts : (xs ys : List HopRow) → Climbs (xs ++ ys) → Climbs xs × Climbs ys
climbs-parts [] ys climbs = (tt, climbs)
climbs-parts (x ∷ xs) ys climbs =
    let rest = climbs-parts xs ys climbs.1 in
    (((Each-parts (λ z. IsBelow z x) xs ys climbs.0).0, rest.0), rest.1)

-- the rows above are below, newest first
abbrev pub Descends : List HopRow → Type 0
Descends [] = Unit {0}
Descends (row ∷ rows) = Each (IsBelow row) rows × Descends rows

below-last : (xs : List HopRow) (row : HopRow) (ys : List HopRow) → Climbs (xs ++ row ∷ ys) → Each (IsBelow row) xs
below-last [] row ys climbs = tt
below-last (x ∷ xs) row ys climbs = (((Each-parts (λ z. IsBelow z x) xs (row ∷ ys) climbs.0).1).0, below-last xs row ys climbs.1)

descends : (above : List HopRow) (rest : List HopRow) → Climbs (reverse above ++ rest) → Descends above
descends [] rest climbs = tt
descends (last ∷ above) rest climbs =
    let cut : reverse (last ∷ above) ++ rest ≡ reverse above ++ (last ∷ rest) = ap (λ xs. xs ++ rest) (reverse-append (last ∷ []) above) ∙ append_assoc (reverse above) (last ∷ []) rest in
    let now : Climbs (reverse above ++ (last ∷ rest)) = subst Climbs cut climbs in
    let below = below-last (reverse above) last rest now in
    (Each-from_among (IsBelow last) above (λ x among. Each-among (IsBelow last) x (reverse above) below (Among-turned x above among)), descends above (last ∷ rest) now)

-- what stands before the row is above it
among-parts : (x : HopRow) (xs ys : List HopRow) → Among x (xs ++ ys) → Among x xs ⊎ Among x ys
among-parts x [] ys among = inr among
among-parts x (y ∷ xs) ys (inl same) = inl (inl same)
among-parts x (y ∷ xs) ys (inr among) = elim (among-parts x xs ys among) [ inl there ↦ inl (inr there) | inr there ↦ inr there ]

above-is : (above post : List HopRow) (row x : HopRow) → Climbs (reverse above ++ row ∷ post) → Among x (reverse above ++ row ∷ post) → IsBelow row x → Among x above
above-is above post row x climbs among below = by-part (among-parts x (reverse above) (row ∷ post) among) where
  own : Climbs (row ∷ post)
  own = (climbs-parts (reverse above) (row ∷ post) climbs).1

  by-part : Among x (reverse above) ⊎ Among x (row ∷ post) → Among x above
  by-part (inl there) = Among-reverse x above there
  by-part (inr (inl same)) = absurd (let self : IsBelow row row = subst (IsBelow row) same below in let h = self.hop refl refl in omega (arith, h))
  by-part (inr (inr later)) = absurd (not-both row x below (Each-among (λ z. IsBelow z row) x post own.0 later))

-- ---- the rows at a hop above a row there

counted-parts : (n : ℕ) (xs ys : List HopRow) → AreCounted n (xs ++ ys) → AreCounted n xs × AreCounted (length xs + n) ys
counted-parts n [] ys are = (let e : length (let none : List HopRow = [] in none) + n ≡ n = omega arith in (tt, subst (λ k. AreCounted k ys) (sym e) are))
counted-parts n (x ∷ xs) ys are =
    let rest = counted-parts (suc n) xs ys are.1 in
    let e : length xs + suc n ≡ length (x ∷ xs) + n = omega arith in
    ((are.0, rest.0), subst (λ k. AreCounted k ys) e rest.1)

counted-numbered : (rows : List HopRow) → AreCounted 0 rows → RowsAreNumbered (reverse rows)
counted-numbered rows are = turned rows (reverse rows) (sym (reverse-reverse rows)) are where
  turned : (rows back : List HopRow) → rows ≡ reverse back → AreCounted 0 rows → RowsAreNumbered back
  turned rows [] is are = tt
  turned rows (row ∷ back) is are =
      let cut : rows ≡ reverse back ++ row ∷ [] = is ∙ reverse-append (row ∷ []) back in
      let parts = counted-parts 0 (reverse back) (row ∷ []) (subst (AreCounted 0) cut are) in
      let e = parts.1.0 in
      let count = length-reverse back in
      (omega (arith, e, count), turned (reverse back) back refl parts.0)

-- where the rows at the hop in the whole table are counted
record AtSplit (c hop : ℕ) (above : List HopRow) (row : HopRow) (whole : List HopRow) : Type 0 where
  pub numbered : RowsAreNumbered (rows_at c hop above)
  pub number : row.number ≡ suc (length (rows_at c hop above))
  pub before : reverse (take (row.number - 1) (map tick_of whole)) ≡ ticks_above c hop above

rows-cut : (c hop : ℕ) (above post : List HopRow) (row : HopRow) → is_at c hop row ≡ true → rows_at c hop (reverse above ++ row ∷ post) ≡ reverse (rows_at c hop above) ++ row ∷ rows_at c hop post
rows-cut c hop above post row at =
    let one : rows_at c hop (row ∷ post) ≡ row ∷ rows_at c hop post = rw at refl in
    filter-append (is_at c hop) (reverse above) (row ∷ post) ∙ ap (λ xs. xs ++ rows_at c hop (row ∷ post)) (filter-reverse (is_at c hop) above) ∙ ap (λ ys. reverse (rows_at c hop above) ++ ys) one

at-split : (c hop : ℕ) (above post : List HopRow) (row : HopRow) (whole : List HopRow) → is_at c hop row ≡ true → AreCounted 0 whole → whole ≡ reverse (rows_at c hop above) ++ row ∷ rows_at c hop post → AtSplit c hop above row whole
at-split c hop above post row whole at are cut =
    let parts = counted-parts 0 (reverse (rows_at c hop above)) (row ∷ rows_at c hop post) (subst (AreCounted 0) cut are) in
    let first = parts.1.0 in
    let count = length-reverse (rows_at c hop above) in
    let number : row.number ≡ suc (length (rows_at c hop above)) = omega (arith, first, count) in
    let places : row.number - 1 ≡ length (reverse (rows_at c hop above)) = omega (arith, number, count) in
    record {
      numbered = subst RowsAreNumbered (reverse-reverse (rows_at c hop above)) (counted-numbered (reverse (rows_at c hop above)) parts.0);
      number = number;
      before =
          ap (λ n. reverse (take n (map tick_of whole))) places ∙ ap (λ rs. reverse (take (length (reverse (rows_at c hop above))) (map tick_of rs))) cut
          ∙ ap (λ ts. reverse (take (length (reverse (rows_at c hop above))) ts)) (map-append tick_of (reverse (rows_at c hop above)) (row ∷ rows_at c hop post))
          ∙ ap reverse (take_at (map tick_of (reverse (rows_at c hop above))) (map tick_of (row ∷ rows_at c hop post)) (length (reverse (rows_at c hop above))) (length-map (reverse (rows_at c hop above)) tick_of))
          ∙ ap reverse (map-reverse tick_of (rows_at c hop above)) ∙ reverse-reverse (map tick_of (rows_at c hop above));
    }

-- ---- the order

-- numbers and hops count from 1 in departures
record CountsUp (row : HopRow) : Type 0 where
  pub number : 1 ≤ row.number
  pub hop : 1 ≤ row.hop

-- the last of the rows above, where one between it and the row stands above
last-between : (last row : HopRow) (rest : List HopRow) (x : HopRow) → Descends (last ∷ rest) → Among x (last ∷ rest) → (x ≡ last) ⊎ IsBelow last x
last-between last row rest x down (inl same) = inl same
last-between last row rest x down (inr among) = inr (Each-among (IsBelow last) x rest down.0 among)

follows-near : (last row near : HopRow) → (near ≡ last) ⊎ IsBelow last near → IsBelow row last → channel_number near.chan ≡ channel_number row.chan → near.number ≡ row.number → row.hop ≡ suc near.hop → (channel_number last.chan ≡ channel_number row.chan) × (last.number ≡ row.number) × (row.hop ≡ suc last.hop)
follows-near last row near (inl same) below chan number hop = (ap (λ (r : HopRow). channel_number r.chan) (sym same) ∙ chan, ap (λ (r : HopRow). r.number) (sym same) ∙ number, hop ∙ ap (λ (r : HopRow). suc r.hop) same)
follows-near last row near (inr over) below chan number hop =
    let a = over.chan in
    let b = below.chan in
    let here : channel_number last.chan ≡ channel_number row.chan = omega (arith, a, b, chan) in
    let m = over.number (chan ∙ sym here) in
    let n = below.number here in
    let equal : last.number ≡ row.number = omega (arith, m, n, number) in
    let g = over.hop (chan ∙ sym here) (number ∙ sym equal) in
    let h = below.hop here equal in
    absurd (omega (arith, g, h, hop))

follows-packet : (last row before : HopRow) → (before ≡ last) ⊎ IsBelow last before → IsBelow row last → CountsUp last → channel_number before.chan ≡ channel_number row.chan → row.number ≡ suc before.number → before.hop ≡ 1 → row.hop ≡ 1 → (channel_number last.chan ≡ channel_number row.chan) × (row.number ≡ suc last.number)
follows-packet last row before (inl same) below counts chan number hop own = (ap (λ (r : HopRow). channel_number r.chan) (sym same) ∙ chan, number ∙ ap (λ (r : HopRow). suc r.number) same)
follows-packet last row before (inr over) below counts chan number hop own =
    let a = over.chan in
    let b = below.chan in
    let here : channel_number last.chan ≡ channel_number row.chan = omega (arith, a, b, chan) in
    let m = over.number (chan ∙ sym here) in
    let n = below.number here in
    elim (cases_eq last.number row.number) [
      | inl equal ↦ absurd (let h = below.hop here equal in let some = counts.hop in omega (arith, h, some, own))
      | inr apart ↦ (here, omega (arith, m, n, number, apart))
    ]

first-follows : (last row : HopRow) → IsBelow row last → CountsUp last → row.number ≡ 1 → row.hop ≡ 1 → channel_number last.chan < channel_number row.chan
first-follows last row below counts number hop =
    let b = below.chan in
    elim (cases_eq (channel_number last.chan) (channel_number row.chan)) [
      | inr apart ↦ omega (arith, b, apart)
      | inl same ↦
          (let n = below.number same in
          let some = counts.number in
          let equal : last.number ≡ row.number = omega (arith, n, some, number) in
          let h = below.hop same equal in
          let least = counts.hop in
          absurd (omega (arith, h, least, hop)))
    ]

goes-on-true : (last row : HopRow) → channel_number last.chan ≡ channel_number row.chan → last.number ≡ row.number → row.hop ≡ suc last.hop → follows_row last row ≡ true
goes-on-true last row chan number hop =
    let c = eq-eqb (channel_number row.chan) (channel_number last.chan) (sym chan) in
    let n = eq-eqb row.number last.number (sym number) in
    let h = eq-eqb row.hop (suc last.hop) hop in
    let on : goes_on last row ≡ true = rw (n, h) refl in
    rw c (or_left (goes_on last row) (is_next_packet last row) on)

next-true : (last row : HopRow) → channel_number last.chan ≡ channel_number row.chan → row.number ≡ suc last.number → row.hop ≡ 1 → follows_row last row ≡ true
next-true last row chan number hop =
    let c = eq-eqb (channel_number row.chan) (channel_number last.chan) (sym chan) in
    let n = eq-eqb row.number (suc last.number) number in
    let h = eq-eqb row.hop 1 hop in
    let on : is_next_packet last row ≡ true = rw (n, h) refl in
    rw c (or_right (goes_on last row) (is_next_packet last row) on)

later-true : (last row : HopRow) → channel_number last.chan < channel_number row.chan → row.number ≡ 1 → row.hop ≡ 1 → follows_row last row ≡ true
later-true last row chan number hop =
    let c = ne_eqb (channel_number row.chan) (channel_number last.chan) (λ e. omega (arith, e, chan)) in
    let l = lt-ltb (channel_number last.chan) (channel_number row.chan) chan in
    let n = eq-eqb row.number 1 number in
    let h = eq-eqb row.hop 1 hop in
    rw c (rw (l, n, h) refl)

-- ---- a row of the table

-- what is known of a row where the table is cut
record Cut (plan : PlanParts) (levels : List (Option Levels)) (departures above post : List HopRow) (row : HopRow) : Type 0 where
  pub climbs : Climbs (reverse above ++ row ∷ post)
  pub down : Descends above
  pub below : Each (IsBelow row) above
  pub counts : Each CountsUp above
  pub own : CountsUp row
  pub departs : IsDeparture plan levels departures row
  pub there : (x : HopRow) → Among x departures → IsBelow row x → Among x above
  pub back : (x : HopRow) → Among x above → Among x departures
  pub at : AtSplit (channel_number row.chan) row.hop above row (rows_at (channel_number row.chan) row.hop departures)

-- the row at the hop before is the last of those above
record LastIs (above : List HopRow) (near : HopRow) : Type 0 where
  pub rest : List HopRow
  pub is : above ≡ near ∷ rest

near-last : (plan : PlanParts) (levels : List (Option Levels)) (departures above post : List HopRow) (row : HopRow) → (cut : Cut plan levels departures above post row) → (far : 2 ≤ row.hop) → LastIs above (cut.departs.near far).near
near-last plan levels departures above post row cut far = by-above above cut.down cut.below cut.climbs there where
  near : HasNear departures cut.departs.terms row
  near = cut.departs.near far

  under : IsBelow row (cut.departs.near far).near
  under = (let h = (cut.departs.near far).hop in let c = (cut.departs.near far).chan in let n = (cut.departs.near far).number in record { chan = omega (arith, c); number = λ _. omega (arith, n); hop = λ _ _. omega (arith, h) })

  there : Among (cut.departs.near far).near above
  there = cut.there (cut.departs.near far).near (cut.departs.near far).among under

  by-above : (above : List HopRow) → Descends above → Each (IsBelow row) above → Climbs (reverse above ++ row ∷ post) → Among (cut.departs.near far).near above → LastIs above (cut.departs.near far).near
  by-above [] down below climbs there = absurd there
  by-above (last ∷ rest) down below climbs there =
      let how = last-between last row rest (cut.departs.near far).near down there in
      let key = follows-near last row (cut.departs.near far).near how below.0 (cut.departs.near far).chan (cut.departs.near far).number (cut.departs.near far).hop in
      let last_there : Among last (reverse (last ∷ rest) ++ row ∷ post) = Among-left last (reverse (last ∷ rest)) (row ∷ post) (Among-turned last (last ∷ rest) (inl refl)) in
      let near_there : Among (cut.departs.near far).near (reverse (last ∷ rest) ++ row ∷ post) = Among-left (cut.departs.near far).near (reverse (last ∷ rest)) (row ∷ post) (Among-turned (cut.departs.near far).near (last ∷ rest) there) in
      let hop = (cut.departs.near far).hop in
      let own = key.2 in
      let same : last ≡ (cut.departs.near far).near = one-place (reverse (last ∷ rest) ++ row ∷ post) last (cut.departs.near far).near climbs last_there near_there (key.0 ∙ sym (cut.departs.near far).chan) (key.1 ∙ sym (cut.departs.near far).number) (omega (arith, hop, own)) in
      record { rest = rest; is = ap (λ r. r ∷ rest) same }

row-follows : (plan : PlanParts) (levels : List (Option Levels)) (departures above post : List HopRow) (row : HopRow) → Cut plan levels departures above post row → follows above row ≡ true
row-follows plan levels departures above post row cut =
    elim (cases_eq row.hop 1) [
      | inr apart ↦
          (let some = cut.own.hop in
          let far : 2 ≤ row.hop = omega (arith, some, apart) in
          let last = near-last plan levels departures above post row cut far in
          let near = cut.departs.near far in
          subst (λ rs. follows rs row ≡ true) (sym last.is) (goes-on-true near.near row near.chan near.number near.hop))
      | inl first ↦ elim (cases_eq row.number 1) [
        | inl one ↦ by-first above cut.below cut.counts first one
        | inr more ↦
            (let some = cut.own.number in
            let number = cut.at.number in
            let found = there-found (channel_number row.chan) (row.number - 1) row.hop above cut.at.numbered (omega (arith, some, more)) (omega (arith, number)) in
            by-found (row_at (channel_number row.chan) (row.number - 1) row.hop above) refl found first (omega (arith, some, more)))
      ]
    ] where
      by-first : (above : List HopRow) → Each (IsBelow row) above → Each CountsUp above → row.hop ≡ 1 → row.number ≡ 1 → follows above row ≡ true
      by-first [] below counts first one = (let h = eq-eqb row.hop 1 first in let n = eq-eqb row.number 1 one in rw (h, n) refl)
      by-first (last ∷ rest) below counts first one = later-true last row (first-follows last row below.0 counts.0 one first) one first

      by-last : (above : List HopRow) (x : HopRow) → Among x above → Descends above → Each (IsBelow row) above → Each CountsUp above → channel_number x.chan ≡ channel_number row.chan → row.number ≡ suc x.number → x.hop ≡ 1 → row.hop ≡ 1 → follows above row ≡ true
      by-last [] x among down below counts chan number hop first = absurd among
      by-last (last ∷ rest) x among down below counts chan number hop first =
          let key = follows-packet last row x (last-between last row rest x down among) below.0 counts.0 chan number hop first in
          next-true last row key.0 key.1 first

      by-found : (found : Option HopRow) → row_at (channel_number row.chan) (row.number - 1) row.hop above ≡ found → is_there found ≡ true → row.hop ≡ 1 → 1 ≤ row.number - 1 → follows above row ≡ true
      by-found None is there first many = absurd (let clash : false ≡ true = there in cc)
      by-found (Some x) is there first many =
          let own = found-among (channel_number row.chan) (row.number - 1) row.hop above x is in
          let inside = Among-filter (is_at (channel_number row.chan) row.hop) x above own.0 in
          let parts = at-parts (channel_number row.chan) row.hop x inside.1 in
          let e = own.1 in
          by-last above x inside.0 cut.down cut.below cut.counts parts.0 (omega (arith, e, many)) (parts.1 ∙ first) first

row-ordered : (plan : PlanParts) (levels : List (Option Levels)) (departures above post : List HopRow) (row : HopRow) → Cut plan levels departures above post row → is_in_order above row ≡ true
unfolding is_in_order
row-ordered plan levels departures above post row cut =
    and_from (follows above row) (nat_le row.number 1 || is_there (packet_before above row)) (row-follows plan levels departures above post row cut)
    (elim (cases_Bool (nat_le row.number 1)) [
      | inl few ↦ or_left (nat_le row.number 1) (is_there (packet_before above row)) few
      | inr many ↦
          (let more = leb-false row.number 1 many in
          let number = cut.at.number in
          or_right (nat_le row.number 1) (is_there (packet_before above row)) (there-found (channel_number row.chan) (row.number - 1) row.hop above cut.at.numbered (omega (arith, more)) (omega (arith, number))))
    ])

-- the row of the hop before
row-near : (plan : PlanParts) (levels : List (Option Levels)) (departures above post : List HopRow) (row : HopRow) → (cut : Cut plan levels departures above post row) → (far : 2 ≤ row.hop) → hop_before above row ≡ Some (cut.departs.near far).near
row-near plan levels departures above post row cut far =
    let last = near-last plan levels departures above post row cut far in
    let near = cut.departs.near far in
    let hop = near.hop in
    subst (λ rs. hop_before rs row ≡ Some (cut.departs.near far).near) (sym last.is) (near-found near.near row last.rest (sym near.chan) (sym near.number) near.hop (omega (arith, hop, far)))

row-size : (plan : PlanParts) (levels : List (Option Levels)) (departures above post : List HopRow) (row : HopRow) → (cut : Cut plan levels departures above post row) → fits_size cut.departs.terms above row ≡ true
unfolding fits_size
row-size plan levels departures above post row cut =
    and_from _ _ (and_from _ _ (le-leb 1 row.size cut.departs.size_least) (le-leb row.size cut.departs.terms.contract.smax cut.departs.size_most))
    (elim (cases_eq row.hop 1) [
      | inl first ↦ ap (λ o. has_size_of o row) (none-before above row first)
      | inr apart ↦
          (let some = cut.own.hop in
          let far : 2 ≤ row.hop = omega (arith, some, apart) in
          ap (λ o. has_size_of o row) (row-near plan levels departures above post row cut far) ∙ eq-eqb row.size (cut.departs.near far).near.size (cut.departs.near far).size)
    ])

row-arrives : (plan : PlanParts) (levels : List (Option Levels)) (departures above post : List HopRow) (row : HopRow) → (cut : Cut plan levels departures above post row) → arrives cut.departs.terms above row ≡ true
unfolding arrives
row-arrives plan levels departures above post row cut =
    elim (cases_eq row.hop 1) [
      | inl first ↦ ap (arrives_from cut.departs.terms above row) (none-before above row first) ∙ by-before (packet_before above row) refl first
      | inr apart ↦
          (let some = cut.own.hop in
          let far : 2 ≤ row.hop = omega (arith, some, apart) in
          ap (arrives_from cut.departs.terms above row) (row-near plan levels departures above post row cut far) ∙ eq-eqb row.at ((cut.departs.near far).near.departed + cut.departs.terms.prop_before) (cut.departs.near far).at)
    ] where
      by-before : (found : Option HopRow) → packet_before above row ≡ found → row.hop ≡ 1 → is_not_sooner (packet_before above row) row ≡ true
      by-before None is first = ap (λ o. is_not_sooner o row) is
      by-before (Some x) is first =
          let own = found-among (channel_number row.chan) (row.number - 1) row.hop above x is in
          let inside = Among-filter (is_at (channel_number row.chan) row.hop) x above own.0 in
          let parts = at-parts (channel_number row.chan) row.hop x inside.1 in
          let e = own.1 in
          let some = cut.own.number in
          ap (λ o. is_not_sooner o row) is ∙ le-leb x.at row.at (cut.departs.sooner first x (cut.back x inside.0) parts.0 (parts.1 ∙ first) (omega (arith, e, some)))

row-eligible : (plan : PlanParts) (levels : List (Option Levels)) (departures above post : List HopRow) (row : HopRow) → (cut : Cut plan levels departures above post row) → is_eligible cut.departs.terms above row ≡ true
unfolding is_eligible
row-eligible plan levels departures above post row cut =
    eq-eqb row.eligible (eligible cut.departs.terms.contract (ticks_above (channel_number row.chan) row.hop above) (may_go_from cut.departs.terms row (hop_before above row)))
    (elim (cases_eq row.hop 1) [
      | inl first ↦
          cut.departs.first first ∙ ap (λ ts. eligible cut.departs.terms.contract ts row.at) cut.at.before
          ∙ ap (λ o. eligible cut.departs.terms.contract (ticks_above (channel_number row.chan) row.hop above) (may_go_from cut.departs.terms row o)) (sym (none-before above row first))
      | inr apart ↦
          (let some = cut.own.hop in
          let far : 2 ≤ row.hop = omega (arith, some, apart) in
          cut.departs.later far ∙ ap (λ ts. eligible cut.departs.terms.contract ts (may_go_from cut.departs.terms row (Some (cut.departs.near far).near))) cut.at.before
          ∙ ap (λ o. eligible cut.departs.terms.contract (ticks_above (channel_number row.chan) row.hop above) (may_go_from cut.departs.terms row o)) (sym (row-near plan levels departures above post row cut far)))
    ])

row-passes : (plan : PlanParts) (levels : List (Option Levels)) (departures above post : List HopRow) (row : HopRow) → Cut plan levels departures above post row → fault_of plan levels above row ≡ None
unfolding fault_of fault_with
row-passes plan levels departures above post row cut =
    let order = row-ordered plan levels departures above post row cut in
    let size = row-size plan levels departures above post row cut in
    let arrive = row-arrives plan levels departures above post row cut in
    let tick = row-eligible plan levels departures above post row cut in
    let bound = cut.departs.bound in
    ap (λ t. fault_under t above row) cut.departs.known ∙ (rw (order, size, arrive, tick, bound) refl)

-- ---- the table

counts-up : (plan : PlanParts) (levels : List (Option Levels)) (departures : List HopRow) (row : HopRow) → AreDepartures plan levels departures → Among row departures → CountsUp row
counts-up plan levels departures row are among =
    let departs = Each-among (IsDeparture plan levels departures) row departures are.each among in
    let place = (row-known plan levels row departs.terms departs.known).place in
    let inside = Among-passes (is_at (channel_number row.chan) row.hop) row departures (is-own row) among in
    record {
      number = Each-among (λ x. 0 < x.number) row (rows_at (channel_number row.chan) row.hop departures) (counted-above 0 (rows_at (channel_number row.chan) row.hop departures) (are.counted (channel_number row.chan) row.hop)) inside;
      hop = omega (arith, place);
    }

cut-at : (plan : PlanParts) (levels : List (Option Levels)) (departures above post : List HopRow) (row : HopRow) → AreDepartures plan levels departures → in_order departures ≡ reverse above ++ row ∷ post → Cut plan levels departures above post row
cut-at plan levels departures above post row are cut =
    let rise : AllRise departures = λ c hop. counted-rise 0 (rows_at c hop departures) (are.counted c hop) in
    let climbs : Climbs (reverse above ++ row ∷ post) = subst Climbs cut (order-climbs departures (rise-apart departures rise)) in
    let own : is_at (channel_number row.chan) row.hop row ≡ true = (let a = eq-eqb (channel_number row.chan) (channel_number row.chan) refl in let b = eq-eqb row.hop row.hop refl in rw (a, b) refl) in
    let among : Among row departures = order-among row departures (subst (Among row) (sym cut) (Among-right row (reverse above) (row ∷ post) (inl refl))) in
    let back : (x : HopRow) → Among x above → Among x departures = λ x there. order-among x departures (subst (Among x) (sym cut) (Among-left x (reverse above) (row ∷ post) (Among-turned x above there))) in
    let below = below-last (reverse above) row post climbs in
    record {
      climbs = climbs;
      down = descends above (row ∷ post) climbs;
      below = Each-from_among (IsBelow row) above (λ x there. Each-among (IsBelow row) x (reverse above) below (Among-turned x above there));
      counts = Each-from_among CountsUp above (λ x there. counts-up plan levels departures x are (back x there));
      own = counts-up plan levels departures row are among;
      departs = Each-among (IsDeparture plan levels departures) row departures are.each among;
      there = λ x there under. above-is above post row x climbs (subst (Among x) cut (among-order x departures there)) under;
      back = back;
      at = at-split (channel_number row.chan) row.hop above post row (rows_at (channel_number row.chan) row.hop departures) own (are.counted (channel_number row.chan) row.hop)
          (sym (rows-stay departures rise (channel_number row.chan) row.hop) ∙ ap (rows_at (channel_number row.chan) row.hop) cut ∙ rows-cut (channel_number row.chan) row.hop above post row own);
    }

all-pass : (plan : PlanParts) (levels : List (Option Levels)) (departures above post : List HopRow) → AreDepartures plan levels departures → in_order departures ≡ reverse above ++ post → AllPass plan levels above
unfolding AllPass
all-pass plan levels departures [] post are cut = tt
all-pass plan levels departures (row ∷ above) post are cut =
    let now : in_order departures ≡ reverse above ++ row ∷ post = cut ∙ ap (λ xs. xs ++ post) (reverse-append (row ∷ []) above) ∙ append_assoc (reverse above) (row ∷ []) post in
    (all-pass plan levels departures above (row ∷ post) are now, row-passes plan levels departures above post row (cut-at plan levels departures above post row are now))

pub departures-sound : (plan : PlanParts) (levels : List (Option Levels)) (departures : List HopRow) → AreDepartures plan levels departures → AllPass plan levels (reverse (in_order departures))
departures-sound plan levels departures are = all-pass plan levels departures (reverse (in_order departures)) [] are (sym (reverse-reverse (in_order departures)) ∙ sym (append-nil (reverse (reverse (in_order departures)))))
