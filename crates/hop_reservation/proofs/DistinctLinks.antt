-- Hops by different links are a route, and no others; two hops of a route over one link are the same; how the search for a
-- link that has occurred before goes on; and a filled array.
use Rattle.std.proofs.Common.{◌≡◌, ◌≢◌, ℕ, suc, ◌+◌, ◌-◌, ◌<◌, ◌≤◌, true, false, Some, None, List, [], ◌∷◌, ◌++◌, length, take, drop, replicate, get_or, inl, inr, ap, sym, subst, refl, ◌∙◌, ltb, arith}
use Rattle.std.specs.List.{slice_get, list_any, AllPairs}
use Rattle.std.proofs.Math.Seq.{drop-cons, take-suc, take-append_seam, get_or-append_seam}
use Rattle.std.proofs.lemmas.Bool.{cases_Bool, cases_lt, eq-eqb, ne_eqb, ltb-false, le-ltb}
use Rattle.std.proofs.lemmas.List.{append_assoc, append-nil, drop-replicate, get_or_append_left, length-take-le, drop_all}
use Rattle.std.proofs.lemmas.List.Folds.{list_any_at, list_any_none}
use Rattle.std.proofs.lemmas.List.Quantifiers.{all_pairs_push}
use Rattle.std.proofs.lemmas.Option.{slice_get_within, get_or_from_slice_get}
use Rattle.hop_reservation.specs.declared.route.Hop.{Hop}
use Rattle.hop_reservation.specs.Routes.{link_of, is_over_link, stands_among, repeated_from, repeated_in, fault_in, IsRoute, filled, IsFilled}

-- two hops are by different links
abbrev pub AreApart : Hop → Hop → Type 0
AreApart one other = link_of one ≢ link_of other

-- ---- links that stood before

-- each of the hops is by another link than one whose link stands nowhere among them
pub each-other : (before : List Hop) (hop : Hop) → stands_among before (link_of hop) ≡ false → (k : ℕ) (d : Hop) → k < length before → AreApart (get_or before k d) hop
each-other before hop none k d within same =
    let found : list_any (is_over_link (link_of hop)) before ≡ true = list_any_at (is_over_link (link_of hop)) before k d within (eq-eqb (link_of (get_or before k d)) (link_of hop) same) in
    let clash : true ≡ false = sym found ∙ none in
    cc

-- the link of a hop that is apart from all of them stands nowhere among them
pub none-among : (before : List Hop) (hop : Hop) (hops : List Hop) → AllPairs AreApart (before ++ hop ∷ hops) → stands_among before (link_of hop) ≡ false
none-among before hop hops apart =
    list_any_none (is_over_link (link_of hop)) before (λ i d within.
    let pair : AreApart (get_or (before ++ hop ∷ hops) i d) (get_or (before ++ hop ∷ hops) (length before) d) = apart i (length before) d within (fits before hop hops) in
    let left = get_or_append_left before (hop ∷ hops) d i within in
    let right = get_or-append_seam before hop hops d in
    ne_eqb (link_of (get_or before i d)) (link_of hop) (λ same. pair (ap link_of left ∙ same ∙ sym (ap link_of right)))) where
      fits : (before : List Hop) (hop : Hop) (hops : List Hop) → length before < length (before ++ hop ∷ hops)
      fits [] hop hops = omega arith
      fits (first ∷ before) hop hops = omega (arith, fits before hop hops)

-- where no link is repeated after hops that are apart, all are apart
pub apart-from_none : (before hops : List Hop) → AllPairs AreApart before → repeated_from before hops ≡ None → AllPairs AreApart (before ++ hops)
unfolding repeated_from
apart-from_none before [] apart none = subst (AllPairs AreApart) (sym (append-nil before)) apart
apart-from_none before (hop ∷ hops) apart none =
    elim (cases_Bool (stands_among before (link_of hop))) [
      | inl found ↦ absurd (let clash : Some (suc (length before)) ≡ None = rw found at none in cc)
      | inr new ↦ subst (AllPairs AreApart) (append_assoc before (hop ∷ []) hops)
          (apart-from_none (before ++ hop ∷ []) hops (all_pairs_push AreApart before hop apart (each-other before hop new)) (rw new at none))
    ]

-- where all are apart, no link is repeated
pub none-from_apart : (before hops : List Hop) → AllPairs AreApart (before ++ hops) → repeated_from before hops ≡ None
unfolding repeated_from
none-from_apart before [] apart = refl
none-from_apart before (hop ∷ hops) apart =
    rw (none-among before hop hops apart)
    (none-from_apart (before ++ hop ∷ []) hops (subst (AllPairs AreApart) (sym (append_assoc before (hop ∷ []) hops)) apart))

-- ---- the search, hop by hop

-- the hop at the index has a link that stood before: its place is the answer
pub repeated-found : (hops : List Hop) (index : ℕ) (d : Hop) → index < length hops → stands_among (take index hops) (link_of (get_or hops index d)) ≡ true
    → repeated_from (take index hops) (drop index hops) ≡ Some (index + 1)
unfolding repeated_from
repeated-found hops index d within found = rw (drop-cons hops index d within) (rw found (ap Some (place (length-take-le index hops (omega arith))))) where
  place : {n : ℕ} → n ≡ index → suc n ≡ index + 1
  place same = omega (arith, same)

-- its link is new: the search goes on after it
pub repeated-goes_on : (hops : List Hop) (index : ℕ) (d : Hop) → index < length hops → stands_among (take index hops) (link_of (get_or hops index d)) ≡ false
    → repeated_from (take index hops) (drop index hops) ≡ repeated_from (take (index + 1) hops) (drop (index + 1) hops)
unfolding repeated_from
repeated-goes_on hops index d within new =
    let on : repeated_from (take index hops) (drop index hops) ≡ repeated_from (take (suc index) hops) (drop (suc index) hops) = rw (drop-cons hops index d within) (rw new (rw (take-suc hops index d within) refl)) in
    let next : suc index ≡ index + 1 = omega arith in
    on ∙ ap (λ n. repeated_from (take n hops) (drop n hops)) next

-- none are left
pub repeated-none_left : (hops : List Hop) (index : ℕ) → length hops ≤ index → repeated_from (take index hops) (drop index hops) ≡ None
unfolding repeated_from
repeated-none_left hops index past = rw (drop_all index hops past) refl

-- ---- a route is what has no fault

-- from 1 to 16 hops have no fault but a link that stands twice
pub fault-is_repeated : (hops : List Hop) → 1 ≤ length hops → length hops ≤ 16 → fault_in hops ≡ repeated_in hops
fault-is_repeated [] least most = absurd (omega arith)
fault-is_repeated (hop ∷ hops) least most = rw (le-ltb 16 (length (hop ∷ hops)) most) refl

pub route-from_none : (hops : List Hop) → fault_in hops ≡ None → IsRoute hops
route-from_none [] none = absurd (let clash : Some 0 ≡ None = none in cc)
route-from_none (hop ∷ hops) none =
    elim (cases_Bool (ltb 16 (length (hop ∷ hops)))) [
      | inl many ↦ absurd (let clash : Some 17 ≡ None = rw many at none in cc)
      | inr few ↦ record {
        least = omega arith;
        most = omega (arith, ltb-false 16 (length (hop ∷ hops)) few);
        apart = apart-from_none [] (hop ∷ hops) (λ i j d before within. absurd (omega (arith, before, within))) (rw few at none);
      }
    ]

pub none-from_route : (hops : List Hop) → IsRoute hops → fault_in hops ≡ None
none-from_route [] is = absurd (omega (arith, is.least))
none-from_route (hop ∷ hops) is = rw (le-ltb 16 (length (hop ∷ hops)) is.most) (none-from_apart [] (hop ∷ hops) is.apart)

-- a route goes over each link once: two of its hops over the same link are the same hop
pub index-apart : (hops : List Hop) (a b : ℕ) (one other : Hop) → IsRoute hops → slice_get hops a ≡ Some one → slice_get hops b ≡ Some other → link_of one ≡ link_of other → a ≡ b
index-apart hops a b one other route first second same =
    elim (cases_lt a b) [
      | inl less ↦ absurd (clash a b one other less first second same)
      | inr more ↦ elim (cases_lt b a) [
        | inl less ↦ absurd (clash b a other one less second first (sym same))
        | inr equal ↦ omega arith
      ]
    ] where
      clash : (i j : ℕ) (x y : Hop) → i < j → slice_get hops i ≡ Some x → slice_get hops j ≡ Some y → link_of x ≡ link_of y → ⊥
      clash i j x y less fx fy e =
          route.apart i j x less (slice_get_within hops j y fy)
          (ap link_of (get_or_from_slice_get hops i x x fx) ∙ e ∙ ap link_of (sym (get_or_from_slice_get hops j y x fy)))

-- ---- a filled array

-- after an array's first hops stands the first one again
pub filled-is : (first : Hop) (hops : List Hop) → slice_get hops 0 ≡ Some first → hops ++ drop (length hops) (replicate 16 first) ≡ filled hops
filled-is first [] found = absurd (let clash : None ≡ Some first = found in cc)
filled-is first (hop ∷ hops) found =
    let same : first ≡ hop = cc in
    rw same (ap (λ after. (hop ∷ hops) ++ after) (drop-replicate (length (hop ∷ hops)) 16 hop))

-- the hops of a filled array are its first ones
pub take-filled : (hops : List Hop) → take (length hops) (filled hops) ≡ hops
take-filled [] = refl
take-filled (hop ∷ hops) = take-append_seam (hop ∷ hops) (replicate (16 - length (hop ∷ hops)) hop)

pub is-filled : (hops : List Hop) → IsFilled (length hops) (filled hops)
is-filled hops = record {
  whole = ap filled (take-filled hops);
  count = ap length (take-filled hops);
}
