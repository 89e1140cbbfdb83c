-- What the allotment of a route keeps: no hop falls below its offer or goes beyond its offer and the whole slack, what the
-- hops get beyond their offers is what is gone from the slack, and the last hop stays within the limit.
use Rattle.std.proofs.Common.{◌≡◌, ℕ, zero, suc, ◌+◌, ◌-◌, ◌/◌, ◌<◌, ◌≤◌, Option, Some, None, List, [], ◌∷◌, length, get_or, max, inl, inr, ap, subst, sym, refl, ltb, arith}
use Rattle.std.proofs.Math.Nat.{div-le_self}
use Rattle.std.proofs.lemmas.Bool.{cases_Bool, ltb-false}
use Rattle.std.proofs.lemmas.Option.{same_Some}
use Rattle.std.specs.List.{slice_get}
use Rattle.net_units.specs.LevelBounds.{bound_at}
use Rattle.net_units.proofs.BoundsInOrder.{largest-within}
use Rattle.hop_reservation.specs.declared.route.Hop.{Hop}
use Rattle.hop_reservation.specs.Offers.{delay_over, IsLevelOf, AreLevels}
use Rattle.relaxation.specs.Allotment.{bound_at_end, jitter_denial, denial_of, relaxed, allotment, allotted, IsWithin}
use Rattle.relaxation.specs.Laws.{HaveBounds, IsWithinReach, AreWithinReach, AllottedLevelsFit}
use Rattle.relaxation.proofs.HopAllotment.{IsRelaxed, relaxed-level}
use Rattle.relaxation.proofs.SlackShares.{allotment-empty, bound_at_end-none}

-- a level from the offered one on, whose bound is within the offered one and the slack
pub record IsShare (slack : ℕ) (hop : Hop) (offer level : ℕ) : Type 0 where
  pub is_level : IsLevelOf hop level
  pub from_offer : offer ≤ level
  pub in_slack : bound_at hop.bounds level ≤ bound_at hop.bounds offer + slack

unfoldable pub AreShares : ℕ → List Hop → List ℕ → List ℕ → Type 0
AreShares slack hops [] [] = Unit {0}
AreShares slack hops [] (level ∷ levels) = ⊥
AreShares slack hops (offer ∷ offers) [] = ⊥
AreShares slack [] (offer ∷ offers) (level ∷ levels) = ⊥
AreShares slack (hop ∷ hops) (offer ∷ offers) (level ∷ levels) = IsShare slack hop offer level × AreShares slack hops offers levels

-- what some hops, with others before them, make of the slack
pub record IsShared (jitter : Option ℕ) (slack before : ℕ) (hops : List Hop) (offers : List ℕ) : Type 0 where
  pub less : (allotment jitter slack before hops offers).slack ≤ slack
  pub sum : delay_over hops (allotment jitter slack before hops offers).levels + (allotment jitter slack before hops offers).slack ≡ delay_over hops offers + slack
  pub shares : AreShares slack hops offers (allotment jitter slack before hops offers).levels
  pub last : IsWithin jitter (bound_at_end hops (allotment jitter slack before hops offers).levels)

-- ---- hop by hop

nothing-within : (jitter : Option ℕ) (hops : List Hop) → IsWithin jitter (bound_at_end hops [])
nothing-within jitter hops most is = (let none = bound_at_end-none hops [] refl in omega (arith, none))

-- hops without offers
shared-nothing : (jitter : Option ℕ) (slack before : ℕ) (hops : List Hop) → IsShared jitter slack before hops []
unfolding AreShares
shared-nothing jitter slack before hops =
    let none = allotment-empty jitter slack before hops in
    record {
      less = omega (arith, ap (λ a. a.slack) none);
      sum = ap (λ a. delay_over hops a.levels + a.slack) none;
      shares = subst (AreShares slack hops []) (sym (ap (λ a. a.levels) none)) tt;
      last = subst (λ levels. IsWithin jitter (bound_at_end hops levels)) (sym (ap (λ a. a.levels) none)) (nothing-within jitter hops);
    }

-- what one more hop makes of a share
record IsOneMore (slack : ℕ) (hop : Hop) (offer left level : ℕ) : Type 0 where
  share : IsShare slack hop offer level
  less : left - (bound_at hop.bounds level - bound_at hop.bounds offer) ≤ slack
  sum : bound_at hop.bounds level + (left - (bound_at hop.bounds level - bound_at hop.bounds offer)) ≡ bound_at hop.bounds offer + left

one-more : (limit : Option ℕ) (slack : ℕ) (hop : Hop) (offer left places level : ℕ) → left ≤ slack → IsRelaxed limit hop offer (left / places) level → IsOneMore slack hop offer left level
one-more limit slack hop offer left places level less is =
    let part = div-le_self left places in
    record {
      share = record { is_level = is.is_level; from_offer = is.from_offer; in_slack = omega (arith, is.in_share, part, less) };
      less = omega (arith, less);
      sum = omega (arith, is.in_share, is.no_sooner, part);
    }

-- the whole route, from any hop on
pub shared : (jitter : Option ℕ) (slack before : ℕ) (hops : List Hop) (offers : List ℕ) → HaveBounds hops → AreLevels hops offers → IsWithin jitter (bound_at_end hops offers) → IsShared jitter slack before hops offers
unfolding allotment delay_over bound_at_end AreShares AreLevels HaveBounds
shared jitter slack before hops [] bounds are within = shared-nothing jitter slack before hops
shared jitter slack before [] (offer ∷ offers) bounds are within = absurd are
shared jitter slack before (hop ∷ hops) (offer ∷ []) bounds are within =
    let after = shared-nothing jitter slack (suc before) hops in
    let left = (allotment jitter slack (suc before) hops []).slack in
    let is = relaxed-level jitter hop offer (left / suc before) bounds.0 are.0 within in
    let more = one-more jitter slack hop offer left (suc before) _ after.less is in
    record {
      less = more.less;
      sum = omega (arith, more.sum, after.sum);
      shares = (more.share, after.shares);
      last = subst (λ levels. IsWithin jitter (bound_at_end (hop ∷ hops) (relaxed jitter hop offer (left / suc before) ∷ levels))) (sym (ap (λ a. a.levels) (allotment-empty jitter slack (suc before) hops))) is.in_limit;
    }
shared jitter slack before (hop ∷ []) (offer ∷ next ∷ offers) bounds are within = absurd are.1
shared jitter slack before (hop ∷ second ∷ hops) (offer ∷ next ∷ offers) bounds are within =
    let after = shared jitter slack (suc before) (second ∷ hops) (next ∷ offers) bounds.1 are.1 within in
    let left = (allotment jitter slack (suc before) (second ∷ hops) (next ∷ offers)).slack in
    let is = relaxed-level None hop offer (left / suc before) bounds.0 are.0 (λ most is. absurd (let clash : None ≡ Some most = is in cc)) in
    let more = one-more None slack hop offer left (suc before) _ after.less is in
    record {
      less = more.less;
      sum = omega (arith, more.sum, after.sum);
      shares = (more.share, after.shares);
      last = after.last;
    }

-- ---- within reach

-- shares of a slack that the delay bound leaves are within reach
pub shares-reach : (delay slack : ℕ) (hops : List Hop) (offers levels : List ℕ) → HaveBounds hops → AreShares slack hops offers levels → delay_over hops offers + slack ≤ delay → AreWithinReach delay hops offers levels
unfolding AreShares AreWithinReach HaveBounds delay_over
shares-reach delay slack hops [] [] bounds are fits = tt
shares-reach delay slack hops [] (level ∷ levels) bounds are fits = absurd are
shares-reach delay slack hops (offer ∷ offers) [] bounds are fits = absurd are
shares-reach delay slack [] (offer ∷ offers) (level ∷ levels) bounds are fits = absurd are
shares-reach delay slack (hop ∷ hops) (offer ∷ offers) (level ∷ levels) bounds are fits =
    let share = are.0 in
    let far = max delay (bound_at hop.bounds offer) in
    let near : bound_at hop.bounds level ≤ far = omega (arith, share.in_slack, fits) in (
      record { is_level = share.is_level; from_offer = share.from_offer; up_to_reach = (largest-within hop.bounds level far bounds.0 share.is_level.least share.is_level.most near).least },
      shares-reach delay slack hops offers levels bounds.1 are.1 (omega (arith, fits)),
    )

-- ---- the law

-- no jitter denial, no offer of the last hop over the jitter bound
pub no-jitter_denial : (last : ℕ) (jitter : Option ℕ) → jitter_denial last jitter ≡ None → IsWithin jitter last
no-jitter_denial last None none most is = absurd (let clash : None ≡ Some most = is in cc)
no-jitter_denial last (Some bound) none most is =
    let same : bound ≡ most = cc in
    elim (cases_Bool (ltb bound last)) [
      | inl over ↦ absurd (let clash : Some _ ≡ None = rw over at none in cc)
      | inr within ↦ omega (arith, ltb-false bound last within, same)
    ]

-- no denial: the offers are within the delay bound, and the last is within the jitter bound
pub no-denial : (hops : List Hop) (offers : List ℕ) (delay : ℕ) (jitter : Option ℕ) → denial_of hops offers delay jitter ≡ None → (delay_over hops offers ≤ delay) × IsWithin jitter (bound_at_end hops offers)
no-denial hops offers delay jitter none =
    elim (cases_Bool (ltb delay (delay_over hops offers))) [
      | inl over ↦ absurd (let clash : Some _ ≡ None = rw over at none in cc)
      | inr within ↦ (ltb-false delay (delay_over hops offers) within, no-jitter_denial (bound_at_end hops offers) jitter (rw within at none))
    ]

pub allotted-fit : AllottedLevelsFit
allotted-fit hops offers delay jitter bounds are none =
    let tests = no-denial hops offers delay jitter none in
    let slack = delay - delay_over hops offers in
    let is = shared jitter slack 0 hops offers bounds are tests.1 in (
      shares-reach delay slack hops offers (allotted hops offers delay jitter) bounds is.shares (omega (arith, tests.0)),
      record { in_time = omega (arith, is.sum, tests.0); in_jitter = is.last },
    )

-- the level of a hop that has offered is within its reach
pub AreWithinReach-at : (delay : ℕ) (hops : List Hop) (offers levels : List ℕ) (i : ℕ) (hop : Hop) → AreWithinReach delay hops offers levels → slice_get hops i ≡ Some hop → i < length offers → IsWithinReach hop delay (get_or offers i 0) (get_or levels i 0)
unfolding AreWithinReach
AreWithinReach-at delay hops [] levels i hop are found less = absurd (omega arith)
AreWithinReach-at delay hops (offer ∷ offers) [] i hop are found less = absurd are
AreWithinReach-at delay [] (offer ∷ offers) (level ∷ levels) i hop are found less = absurd are
AreWithinReach-at delay (first ∷ hops) (offer ∷ offers) (level ∷ levels) zero hop are found less = subst (λ h. IsWithinReach h delay offer level) (same_Some first hop found) are.0
AreWithinReach-at delay (first ∷ hops) (offer ∷ offers) (level ∷ levels) (suc i) hop are found less = AreWithinReach-at delay hops offers levels i hop are.1 found (omega arith)
