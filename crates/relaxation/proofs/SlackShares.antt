-- The shares of the slack, from the last hop to the first: what one more hop makes of those after it.
use Rattle.std.proofs.Common.{◌≡◌, ℕ, zero, suc, ◌+◌, ◌-◌, ◌/◌, ◌<◌, ◌≤◌, true, Option, Some, None, List, [], ◌∷◌, length, map, take, drop, set, get_or, inl, inr, ap, subst, sym, refl, ◌∙◌, arith}
use Rattle.std.specs.List.{slice_get}
use Rattle.std.proofs.Math.Seq.{drop-cons}
use Rattle.std.proofs.lemmas.Bool.{cases_lt}
use Rattle.std.proofs.lemmas.List.{drop_all, drop-set}
use Rattle.std.proofs.lemmas.Option.{slice_get_within, get_or_from_slice_get}
use Rattle.net_units.specs.Numbers.{level_number}
use Rattle.net_units.specs.LevelBounds.{are_bounds, bound_at}
use Rattle.net_units.specs.declared.numbers.Level.{Level}
use Rattle.hop_reservation.specs.declared.route.Hop.{Hop}
use Rattle.hop_reservation.specs.Offers.{delay_over}
use Rattle.relaxation.specs.Laws.{HaveBounds}
use Rattle.relaxation.specs.Allotment.{bound_at_end, limit_before, relaxed, with_level, allotment, IsWithin}

-- a list from a place on is the item there and what is after it
pub drop-item : {X : Type 0} (xs : List X) (i : ℕ) (x : X) → slice_get xs i ≡ Some x → drop i xs ≡ x ∷ drop (suc i) xs
drop-item xs i x found = drop-cons xs i x (slice_get_within xs i x found) ∙ ap (λ y. y ∷ drop (suc i) xs) (get_or_from_slice_get xs i x x found)

-- ---- offers

-- the bound that a hop has offered is no more than the delay over the route
pub bound-in_delay : (hops : List Hop) (offers : List ℕ) (i : ℕ) (hop : Hop) → slice_get hops i ≡ Some hop → i < length offers → bound_at hop.bounds (get_or offers i 0) ≤ delay_over hops offers
unfolding delay_over
bound-in_delay [] offers i hop found within = absurd (let clash : None ≡ Some hop = found in cc)
bound-in_delay (first ∷ hops) [] i hop found within = absurd (omega arith)
bound-in_delay (first ∷ hops) (offer ∷ offers) zero hop found within = (let same : first ≡ hop = cc in let e = ap (λ h. bound_at h.bounds offer) same in omega (arith, e))
bound-in_delay (first ∷ hops) (offer ∷ offers) (suc i) hop found within = omega (arith, bound-in_delay hops offers i hop found (omega arith))

-- no offers have no last bound
pub bound_at_end-none : (hops : List Hop) (offers : List ℕ) → length offers ≡ 0 → bound_at_end hops offers ≡ 0
unfolding bound_at_end
bound_at_end-none [] offers none = refl
bound_at_end-none (hop ∷ hops) [] none = refl
bound_at_end-none (hop ∷ hops) (offer ∷ offers) none = absurd (omega arith)

-- the last bound is that of the last offer
pub bound_at_end-at : (hops : List Hop) (offers : List ℕ) (hop : Hop) → 1 ≤ length offers → slice_get hops (length offers - 1) ≡ Some hop → bound_at_end hops offers ≡ bound_at hop.bounds (get_or offers (length offers - 1) 0)
unfolding bound_at_end
bound_at_end-at [] offers hop some found = absurd (let clash : None ≡ Some hop = found in cc)
bound_at_end-at (first ∷ hops) [] hop some found = absurd (omega arith)
bound_at_end-at (first ∷ hops) (offer ∷ []) hop some found = (let same : first ≡ hop = cc in ap (λ h. bound_at h.bounds offer) same)
bound_at_end-at (first ∷ hops) (offer ∷ next ∷ offers) hop some found =
    let e : length (offer ∷ next ∷ offers) - 1 ≡ suc (length (next ∷ offers) - 1) = omega arith in
    let after : slice_get hops (length (next ∷ offers) - 1) ≡ Some hop = subst (λ i. slice_get (first ∷ hops) i ≡ Some hop) e found in
    bound_at_end-at hops (next ∷ offers) hop (omega arith) after ∙ ap (λ i. bound_at hop.bounds (get_or (offer ∷ next ∷ offers) i 0)) (sym e)

-- which is the last hop's
pub bound_at_end-last : (hops : List Hop) (levels : List ℕ) (i : ℕ) (hop : Hop) → length levels ≡ suc i → slice_get hops i ≡ Some hop → bound_at_end hops levels ≡ bound_at hop.bounds (get_or levels i 0)
bound_at_end-last hops levels i hop count found =
    let place : length levels - 1 ≡ i = omega (arith, count) in
    bound_at_end-at hops levels hop (omega (arith, count)) (subst (λ k. slice_get hops k ≡ Some hop) (sym place) found) ∙ ap (λ k. bound_at hop.bounds (get_or levels k 0)) place

-- ---- the limit

-- after the last hop the limit is that of the jitter
pub limit-last : (jitter : Option ℕ) (offers : List ℕ) (place : ℕ) → length offers ≤ place → limit_before jitter (drop place offers) ≡ jitter
limit-last jitter offers place past = ap (limit_before jitter) (drop_all place offers past)

-- a hop before others has no limit
pub limit-none : (jitter : Option ℕ) (offers : List ℕ) (place : ℕ) → place < length offers → limit_before jitter (drop place offers) ≡ None
limit-none jitter offers place within = ap (limit_before jitter) (drop-cons offers place 0 within)

-- what each hop has offered is within its limit, where the last hop's offer is within that of the jitter
pub limit-kept : (jitter : Option ℕ) (hops : List Hop) (offers : List ℕ) (place : ℕ) (hop : Hop) → 1 ≤ place → place ≤ length offers → slice_get hops (place - 1) ≡ Some hop
    → IsWithin jitter (bound_at_end hops offers) → IsWithin (limit_before jitter (drop place offers)) (bound_at hop.bounds (get_or offers (place - 1) 0))
limit-kept jitter hops offers place hop one upto found within most is =
    elim (cases_lt place (length offers)) [
      | inl before ↦ absurd (let clash : None ≡ Some most = sym (limit-none jitter offers place before) ∙ is in cc)
      | inr last ↦
          let same : place ≡ length offers = omega (arith, last, upto) in
          let found_last : slice_get hops (length offers - 1) ≡ Some hop = subst (λ p. slice_get hops (p - 1) ≡ Some hop) same found in
          let bound = bound_at_end-at hops offers hop (omega (arith, one, same)) found_last in
          let fits = within most (sym (limit-last jitter offers place last) ∙ is) in
          let e = ap (λ p. bound_at hop.bounds (get_or offers (p - 1) 0)) same in
          omega (arith, bound, fits, e)
    ]

-- ---- one more hop

-- the hop at an index, before those after it
allotment-at : (jitter : Option ℕ) (slack : ℕ) (hops : List Hop) (offers : List ℕ) (i : ℕ) (hop : Hop) → slice_get hops i ≡ Some hop → i < length offers
    → allotment jitter slack i (drop i hops) (drop i offers)
    ≡ with_level hop (get_or offers i 0) (allotment jitter slack (suc i) (drop (suc i) hops) (drop (suc i) offers))
    (relaxed (limit_before jitter (drop (suc i) offers)) hop (get_or offers i 0) ((allotment jitter slack (suc i) (drop (suc i) hops) (drop (suc i) offers)).slack / suc i))
unfolding allotment
allotment-at jitter slack hops offers i hop found within = rw (drop-item hops i hop found) (rw (drop-cons offers i 0 within) refl)

-- the same by its place, from 1
pub allotment-step : (jitter : Option ℕ) (slack : ℕ) (hops : List Hop) (offers : List ℕ) (place : ℕ) (hop : Hop) → 1 ≤ place → place ≤ length offers → slice_get hops (place - 1) ≡ Some hop
    → allotment jitter slack (place - 1) (drop (place - 1) hops) (drop (place - 1) offers)
    ≡ with_level hop (get_or offers (place - 1) 0) (allotment jitter slack place (drop place hops) (drop place offers))
    (relaxed (limit_before jitter (drop place offers)) hop (get_or offers (place - 1) 0) ((allotment jitter slack place (drop place hops) (drop place offers)).slack / place))
allotment-step jitter slack hops offers zero hop one upto found = absurd (omega arith)
allotment-step jitter slack hops offers (suc i) hop one upto found =
    let e : suc i - 1 ≡ i = omega arith in
    rw e (allotment-at jitter slack hops offers i hop (rw e at found) (omega arith))

-- no offers, no levels
pub allotment-empty : (jitter : Option ℕ) (slack before : ℕ) (hops : List Hop) → allotment jitter slack before hops [] ≡ record { levels = []; slack = slack }
unfolding allotment
allotment-empty jitter slack before [] = refl
allotment-empty jitter slack before (hop ∷ hops) = refl

-- after the last hop the whole slack is left
pub allotment-none : (jitter : Option ℕ) (slack : ℕ) (hops : List Hop) (offers : List ℕ) (place : ℕ) → length offers ≤ place
    → allotment jitter slack place (drop place hops) (drop place offers) ≡ record { levels = []; slack = slack }
allotment-none jitter slack hops offers place past = rw (drop_all place offers past) (allotment-empty jitter slack place (drop place hops))

-- a turn: the hop at the place gets its level, and what it gets beyond its offer is gone from what is left
pub share-step : (jitter : Option ℕ) (slack : ℕ) (hops : List Hop) (offers : List ℕ) (place : ℕ) (hop : Hop) (offer level left : ℕ)
    → 1 ≤ place → place ≤ length offers → slice_get hops (place - 1) ≡ Some hop → offer ≡ get_or offers (place - 1) 0
    → left ≡ (allotment jitter slack place (drop place hops) (drop place offers)).slack
    → level ≡ relaxed (limit_before jitter (drop place offers)) hop (get_or offers (place - 1) 0) ((allotment jitter slack place (drop place hops) (drop place offers)).slack / place)
    → (left - (bound_at hop.bounds level - bound_at hop.bounds offer) ≡ (allotment jitter slack (place - 1) (drop (place - 1) hops) (drop (place - 1) offers)).slack)
    × (level ∷ (allotment jitter slack place (drop place hops) (drop place offers)).levels ≡ (allotment jitter slack (place - 1) (drop (place - 1) hops) (drop (place - 1) offers)).levels)
share-step jitter slack hops offers place hop offer level left one upto found is_offer is_left is_level =
    let after = allotment jitter slack place (drop place hops) (drop place offers) in
    let step = allotment-step jitter slack hops offers place hop one upto found in (
      ap (λ l. l - (bound_at hop.bounds level - bound_at hop.bounds offer)) is_left
          ∙ ap (λ o. after.slack - (bound_at hop.bounds level - bound_at hop.bounds o)) is_offer
          ∙ ap (λ v. after.slack - (bound_at hop.bounds v - bound_at hop.bounds (get_or offers (place - 1) 0))) is_level
          ∙ sym (ap (λ a. a.slack) step),
      ap (λ v. v ∷ after.levels) is_level ∙ sym (ap (λ a. a.levels) step),
    )

-- ---- the levels in their array

-- none are after the last place
pub put-none : (levels : List Level) (n place : ℕ) → n ≤ place → map level_number (take (n - place) (drop place levels)) ≡ []
put-none levels n place past = (let e : n - place ≡ 0 = omega (arith, past) in rw e refl)

-- one more stands before those after the place
pub put-one : (levels : List Level) (n place : ℕ) (level : Level) → 1 ≤ place → place ≤ n → n ≤ length levels
    → map level_number (take (n - (place - 1)) (drop (place - 1) (set levels (place - 1) level))) ≡ level_number level ∷ map level_number (take (n - place) (drop place levels))
put-one levels n place level one upto fits =
    let more : n - (place - 1) ≡ suc (n - place) = omega (arith, one, upto) in
    let next : place - 1 + 1 ≡ place = omega (arith, one) in
    rw (drop-set levels (place - 1) level (omega (arith, one, upto, fits))) (rw more (rw next refl))

-- ---- bounds that are a link's

pub bounds-none : (hops : List Hop) (place : ℕ) → length hops ≤ place → HaveBounds (drop place hops)
unfolding HaveBounds
bounds-none hops place past = subst HaveBounds (sym (drop_all place hops past)) tt

-- those of one more hop
pub bounds-one : (hops : List Hop) (place : ℕ) (hop : Hop) → 1 ≤ place → slice_get hops (place - 1) ≡ Some hop → are_bounds hop.bounds ≡ true → HaveBounds (drop place hops) → HaveBounds (drop (place - 1) hops)
unfolding HaveBounds
bounds-one hops place hop one found are after =
    let next : suc (place - 1) ≡ place = omega (arith, one) in
    subst HaveBounds (sym (drop-item hops (place - 1) hop found)) (are, subst (λ p. HaveBounds (drop p hops)) (sym next) after)
