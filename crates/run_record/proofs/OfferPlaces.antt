-- What one offer more does to the place of a link among those that have made one.
use Rattle.std.proofs.Common.{◌≡◌, ℕ, zero, suc, ◌+◌, ◌<◌, ◌≤◌, if◌then◌else◌, Some, None, List, [], ◌∷◌, ◌++◌, length, min, get_or, set, replicate, refl, sym, ap, ◌∙◌, inl, inr, arith, length-append, length-set, get_or-set_same, get_or-set_other}
use Rattle.std.proofs.lemmas.Bool.{cases_Bool, cases_eq, eq-eqb, ne_eqb}
use Rattle.std.specs.Prelude.{nat_eq}
use Rattle.std.proofs.lemmas.List.{get_or_past, get_or-replicate, length-replicate}
use Rattle.net_units.specs.Numbers.{channel_number, link_number}
use Rattle.net_units.specs.declared.numbers.ChanNo.{ChanNo}
use Rattle.run_record.specs.Hops.{AreOffered, AreHops, hops_at, no_hops}
use Rattle.run_record.specs.Rows.{next_place, place_in, hop_among, is_to, offer_by, links_of}
use Rattle.run_record.specs.declared.done.Done.{Done}
use Rattle.run_record.specs.declared.hops.Hops.{Hops}

pub no-place : (p : ℕ) → next_place p ≡ 0 → p ≡ 0
no-place zero none = refl
no-place (suc p) none = absurd (cc)

no-one : (n : ℕ) → n ≡ 1 → n ≡ 0 → ⊥
no-one n one none = omega arith

-- a link that has a place keeps it
pub place-kept : (n m : ℕ) (links : List ℕ) → (place_in n links ≡ 0 → ⊥) → place_in n (links ++ m ∷ []) ≡ place_in n links
unfolding place_in
place-kept n m [] some = absurd (some refl)
place-kept n m (k ∷ links) some =
    elim (cases_Bool (nat_eq k n)) [
      | inl same ↦ rw (same) refl
      | inr other ↦
          let after : place_in n links ≡ 0 → ⊥ = λ none. some (simp (other, none)) in
          rw (other, place-kept n m links after) refl
    ]

-- so does one that makes no offer
pub place-other : (n m : ℕ) (links : List ℕ) → (m ≡ n → ⊥) → place_in n (links ++ m ∷ []) ≡ place_in n links
unfolding place_in
place-other n m [] apart = rw (ne_eqb m n apart) refl
place-other n m (k ∷ links) apart = rw (place-other n m links apart) refl

-- the first offer of a link puts it after the others
pub place-new : (n : ℕ) (links : List ℕ) → place_in n links ≡ 0 → place_in n (links ++ n ∷ []) ≡ suc (length links)
unfolding place_in
place-new n [] none = rw (eq-eqb n n refl) refl
place-new n (k ∷ links) none =
    elim (cases_Bool (nat_eq k n)) [
      | inl same ↦ absurd (no-one 1 refl (rw (same) at none))
      | inr other ↦
          let after : place_in n links ≡ 0 = no-place (place_in n links) (rw (other) at none) in
          rw (other, place-new n links after) refl
    ]

-- ---- what is kept of a channel's hops

pub none-offered : AreOffered [] (record { places = replicate 32 0; offers = 0 })
unfolding place_in
none-offered = record { whole = length-replicate {A = ℕ} 32 0; count = refl; places = λ n within. get_or-replicate 32 n 0 0 within }

pub offered-new : (links places : List ℕ) (offers count n : ℕ) → AreOffered links (record { places = places; offers = offers }) → n < 32 → get_or places n 0 ≡ 0 → count ≡ min (offers + 1) 255
    → AreOffered (links ++ n ∷ []) (record { places = set places n count; offers = count })
offered-new links places offers count n are within none more = record {
  whole = length-set places n count ∙ are.whole;
  count = let long = length-append links (n ∷ []) in omega (arith, are.count);
  places = λ k inside. elim (cases_eq k n) [
    | inl same ↦
        let unplaced : place_in n links ≡ 0 = omega (arith, are.places n within) in
        let here : get_or (set places n count) n 0 ≡ count = get_or-set_same places n count 0 (omega (arith, are.whole)) in
        let placed = place-new n links unplaced in
        rw (same, here, placed) (omega (arith, are.count))
    | inr apart ↦
        let other : get_or (set places n count) k 0 ≡ get_or places k 0 = get_or-set_other places n k count 0 apart in
        let kept : place_in k (links ++ n ∷ []) ≡ place_in k links = place-other k n links (λ e. apart (sym e)) in
        rw (other, kept) (are.places k inside)
  ];
}

pub offered-kept : (links places : List ℕ) (offers count n : ℕ) → AreOffered links (record { places = places; offers = offers }) → n < 32 → (get_or places n 0 ≡ 0 → ⊥) → count ≡ min (offers + 1) 255
    → AreOffered (links ++ n ∷ []) (record { places = places; offers = count })
offered-kept links places offers count n are within some more = record {
  whole = are.whole;
  count = let long = length-append links (n ∷ []) in omega (arith, are.count);
  places = λ k inside. elim (cases_eq k n) [
    | inl same ↦
        let placed : place_in k links ≡ 0 → ⊥ = λ none. some (rw (← same) (are.places k inside ∙ ap (min 255) none)) in
        rw (place-kept k n links placed) (are.places k inside)
    | inr apart ↦ rw (place-other k n links (λ e. apart (sym e))) (are.places k inside)
  ];
}

-- ---- the table

pub no-table : AreHops [] []
unfolding links_of
no-table = λ c. none-offered

-- a channel without a place in the table has no hops
pub none-at : (entries : List Done) (table : List Hops) (c n : ℕ) → AreHops entries table → length table ≤ c → n < 32 → hop_among n (links_of c entries) ≡ 0
none-at entries table c n are past within =
    let bare : AreOffered (links_of c entries) no_hops = rw (get_or_past table c no_hops past) at (are c) in
    sym (bare.places n within) ∙ get_or-replicate 32 n 0 0 within

pub links-push : (c : ℕ) (before : List Done) (done : Done) → links_of c (before ++ done ∷ []) ≡ (if is_to c (offer_by done.ask done.reply) then links_of c before ++ link_number done.link ∷ [] else links_of c before)
unfolding links_of
links-push c [] done = refl
links-push c (first ∷ before) done =
    let rest = links-push c before done in
    elim (cases_Bool (is_to c (offer_by first.ask first.reply))) [
      | inl offer ↦ elim (cases_Bool (is_to c (offer_by done.ask done.reply))) [
        | inl more ↦ rw (offer, more) (ap (λ links. link_number first.link ∷ links) (rw (more) at rest))
        | inr other ↦ rw (offer, other) (ap (λ links. link_number first.link ∷ links) (rw (other) at rest))
      ]
      | inr other ↦ rw (other) rest
    ]

pub hops-kept : (entries : List Done) (done : Done) (table : List Hops) → offer_by done.ask done.reply ≡ None → AreHops entries table → AreHops (entries ++ done ∷ []) table
hops-kept entries done table none are = λ c. rw (links-push c entries done, none) (are c)

pub hops-more : (entries : List Done) (done : Done) (chan : ChanNo) (old table : List Hops) (hops more : Hops) → offer_by done.ask done.reply ≡ Some chan → AreHops entries old → ((c : ℕ) → hops_at table c ≡ hops_at old c)
    → channel_number chan < length table → hops ≡ hops_at table (channel_number chan) → ((links : List ℕ) → AreOffered links hops → AreOffered (links ++ link_number done.link ∷ []) more) → AreHops (entries ++ done ∷ []) (set table (channel_number chan) more)
hops-more entries done chan old table hops more offer are same inside is goes = λ c. elim (cases_eq (channel_number chan) c) [
  | inl here ↦
      let place : get_or (set table (channel_number chan) more) (channel_number chan) no_hops ≡ more = get_or-set_same table (channel_number chan) more no_hops inside in
      let had : AreOffered (links_of (channel_number chan) entries) hops = rw (is, same (channel_number chan)) (are (channel_number chan)) in
      rw (← here, links-push (channel_number chan) entries done, offer, eq-eqb (channel_number chan) (channel_number chan) refl, place) (goes (links_of (channel_number chan) entries) had)
  | inr apart ↦
      let other : get_or (set table (channel_number chan) more) c no_hops ≡ get_or table c no_hops = get_or-set_other table (channel_number chan) c more no_hops (λ e. apart (sym e)) in
      rw (links-push c entries done, offer, ne_eqb (channel_number chan) c apart, other, same c) (are c)
]
