-- The hop at a place of a route has the level there, and adds its delay to that of the hops before it; and an allotment
-- gives each hop a level.
use Rattle.std.proofs.Common.{◌≡◌, ℕ, suc, ◌+◌, ◌-◌, ◌<◌, ◌≤◌, Some, List, [], ◌∷◌, length, take, get_or, ap, subst, sym, refl, ◌∙◌, arith}
use Rattle.std.proofs.Math.Seq.{take-suc}
use Rattle.std.proofs.lemmas.List.{length-take-le}
use Rattle.std.specs.List.{slice_get}
use Rattle.hop_reservation.specs.Offers.{hop_delay, delay_over, AreLevels, IsLevelOf}
use Rattle.hop_reservation.specs.declared.route.Hop.{Hop}
use Rattle.hop_reservation.proofs.OneMoreOffer.{AreLevels-at, delay_over-push}
use Rattle.relaxation.specs.Laws.{AreWithinReach}
use Rattle.setup_protocol.specs.State.{HaveLevels}

pub level-at : (route : List Hop) (levels : List ℕ) (place level : ℕ) (hop : Hop) → HaveLevels route levels → 1 ≤ place → place ≤ length route
    → slice_get route (place - 1) ≡ Some hop → level ≡ get_or levels (place - 1) 0 → level ≤ length hop.bounds
level-at route levels place level hop have one upto found is =
    let own : IsLevelOf hop (get_or levels (place - 1) 0) = AreLevels-at route levels (place - 1) hop have.are_levels found (omega (arith, one, upto, have.whole)) in
    omega (arith, own.most, is)

-- the delay over one more hop
pub delay-more : (route : List Hop) (levels : List ℕ) (index : ℕ) (hop : Hop) → index < length levels → slice_get route (index + 1 - 1) ≡ Some hop
    → delay_over route (take (index + 1) levels) ≡ delay_over route (take index levels) + hop_delay hop (get_or levels (index + 1 - 1) 0)
delay-more route levels index hop within found =
    let here : index + 1 - 1 ≡ index = omega arith in
    let next : index + 1 ≡ suc index = omega arith in
    let count : length (take index levels) ≡ index = length-take-le index levels (omega (arith, within)) in
    let at : slice_get route (length (take index levels)) ≡ Some hop = subst (λ i. slice_get route i ≡ Some hop) (here ∙ sym count) found in
    rw here (rw next (rw (take-suc levels index 0 within) (delay_over-push route (take index levels) hop (get_or levels index 0) at)))

-- levels within reach are levels of their hops, as many as were offered
pub reach-have : (delay : ℕ) (hops : List Hop) (offers levels : List ℕ) → AreWithinReach delay hops offers levels → AreLevels hops levels × (length levels ≡ length offers)
unfolding AreWithinReach AreLevels
reach-have delay hops [] [] are = (tt, refl)
reach-have delay hops [] (level ∷ levels) are = absurd are
reach-have delay hops (offer ∷ offers) [] are = absurd are
reach-have delay [] (offer ∷ offers) (level ∷ levels) are = absurd are
reach-have delay (hop ∷ hops) (offer ∷ offers) (level ∷ levels) are = (let rest = reach-have delay hops offers levels are.1 in ((are.0.is_level, rest.0), ap suc rest.1))
