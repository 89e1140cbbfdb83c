-- The asks of a setup meet the conditions on an ask.
use Rattle.std.proofs.Common.{◌≡◌, ℕ, zero, suc, ◌-◌, ◌≤◌, true, Option, Some, None, List, [], ◌∷◌, length, get_or, inl, inr, ap, subst, sym, refl, arith}
use Rattle.std.specs.List.{slice_get}
use Rattle.std.proofs.lemmas.Bool.{cases_Bool, cases_lt, eqb-true}
use Rattle.std.proofs.lemmas.Option.{slice_get_within}
use Rattle.net_units.specs.LevelBounds.{are_bounds, bound_at}
use Rattle.net_units.specs.declared.numbers.LinkNo.{LinkNo}
use Rattle.net_units.proofs.BoundsInOrder.{bounds-parts, bound_at-most}
use Rattle.traffic_contract.specs.Contract.{IsContract}
use Rattle.hop_reservation.specs.Offers.{AreLevels, IsLevelOf}
use Rattle.hop_reservation.specs.declared.route.Hop.{Hop}
use Rattle.hop_reservation.proofs.OneMoreOffer.{levels-fit, AreLevels-at}
use Rattle.link_steps.specs.Legal.{AskFits}
use Rattle.link_steps.specs.declared.asks.Ask.{Ask}
use Rattle.link_steps.specs.declared.asks.Ask.TheVariants.{Deny as GiveBack}
use Rattle.link_steps.specs.declared.replies.Reply.{Reply}
use Rattle.link_steps.specs.declared.shape.LinkShape.{LinkShape}
use Rattle.link_steps.proofs.LevelByNumber.{level_of-number}
use Rattle.relaxation.specs.Allotment.{denial_of, allotted}
use Rattle.relaxation.specs.Laws.{HaveBounds}
use Rattle.relaxation.specs.declared.EndDenial.{EndDenial}
use Rattle.relaxation.proofs.RouteAllotment.{allotted-fit}
use Rattle.setup_protocol.specs.Requests.{jitter_of}
use Rattle.setup_protocol.specs.Laws.{AsksHop, EverySetupAskFits}
use Rattle.setup_protocol.specs.Setup.{is_offer, reach_in, offers_in, after_offers, reach_after, undoing, relaxing, on_the_way, after_test, asked, asked_of, reserve_of, relax_of, bound_if, bound_given}
use Rattle.setup_protocol.specs.declared.request.Request.{Request}
use Rattle.setup_protocol.specs.declared.verdict.Deny.{Deny}
use Rattle.setup_protocol.proofs.HopAsks.{asked-at}
use Rattle.setup_protocol.proofs.SetupAdvances.{progress-on_the_way, progress-tested}
use Rattle.setup_protocol.proofs.RouteLevels.{reach-have}

-- ---- bounds of a route

-- each hop of a route has bounds
pub HaveBounds-at : (hops : List Hop) (i : ℕ) (hop : Hop) → HaveBounds hops → slice_get hops i ≡ Some hop → are_bounds hop.bounds ≡ true
unfolding HaveBounds
HaveBounds-at [] i hop bounds found = absurd (let clash : None ≡ Some hop = found in cc)
HaveBounds-at (first ∷ hops) zero hop bounds found = (let same : first ≡ hop = cc in subst (λ h. are_bounds h.bounds ≡ true) same bounds.0)
HaveBounds-at (first ∷ hops) (suc i) hop bounds found = HaveBounds-at hops i hop bounds.1 found

-- the reach before a hop is no more than a bound
reach-most : (before : ℕ) (hops : List Hop) (replies : List Reply) → HaveBounds hops → before ≤ 1048576 → reach_after before hops replies ≤ 1048576
unfolding HaveBounds reach_after
reach-most before hops [] bounds most = most
reach-most before [] (reply ∷ replies) bounds most = most
reach-most before (hop ∷ hops) (reply ∷ replies) bounds most =
    elim (cases_Bool (is_offer reply)) [
      | inl offer ↦ rw offer (reach-most (bound_at hop.bounds (reach_in reply)) hops replies bounds.1 (bound_at-most hop.bounds (reach_in reply) bounds.0))
      | inr plain ↦ rw plain most
    ]

-- before the first hop there is none
reach-none : (hops : List Hop) (replies : List Reply) → length (offers_in replies) ≡ 0 → after_offers replies ≡ [] → reach_after 0 hops replies ≡ 0
unfolding offers_in after_offers reach_after
reach-none hops [] none alone = refl
reach-none hops (reply ∷ replies) none alone =
    elim (cases_Bool (is_offer reply)) [
      | inl offer ↦ absurd (let some : suc (length (offers_in replies)) ≡ 0 = rw offer at none in omega arith)
      | inr plain ↦ absurd (let clash : reply ∷ replies ≡ [] = rw plain at alone in cc)
    ]

-- the bound allotted to the hop before is no more than a bound
given-most : (hops : List Hop) (levels : List ℕ) (place : ℕ) → HaveBounds hops → bound_given hops levels place ≤ 1048576
given-most hops levels zero bounds = omega arith
given-most hops levels (suc i) bounds = go (slice_get hops i) refl where
  go : (found : Option Hop) → slice_get hops i ≡ found → bound_if found (get_or levels i 0) ≤ 1048576
  go None none = omega arith
  go (Some hop) found = bound_at-most hop.bounds (get_or levels i 0) (HaveBounds-at hops i hop bounds found)

-- ---- one ask

-- an ask of the hop at an index
of-place : (request : Request) (index : ℕ) (own : Ask) (to : LinkNo) (ask : Ask) → asked_of (slice_get request.route index) (λ hop. own) ≡ Some (to, ask)
    → ((hop : Hop) → slice_get request.route index ≡ Some hop → (shape : LinkShape) → shape.bounds ≡ hop.bounds → AskFits shape own) → AsksHop request to ask
of-place request index own to ask asks fits =
    let at = asked-at request.route index (λ hop. own) to ask asks in
    record {
      index = index;
      hop = at.hop;
      stands = at.stands;
      is_asked = at.at;
      fits = λ shape bounds. subst (AskFits shape) (sym at.is) (fits at.hop at.stands shape bounds);
    }

-- a deny
undone-fits : (request : Request) (left : ℕ) (deny : Deny) (to : LinkNo) (ask : Ask) → asked request (undoing left deny) ≡ Some (to, ask) → AsksHop request to ask
undone-fits request zero deny to ask is = absurd (let clash : None ≡ Some (to, ask) = is in cc)
undone-fits request (suc left) deny to ask is = of-place request (suc left - 1) (GiveBack request.chan) to ask is (λ hop found shape bounds. tt)

-- a reserve
reserve-fits : (request : Request) (replies : List Reply) (to : LinkNo) (ask : Ask) → IsContract request.contract → HaveBounds request.route → after_offers replies ≡ []
    → asked_of (slice_get request.route (length (offers_in replies))) (λ hop. reserve_of request (offers_in replies) (reach_after 0 request.route replies)) ≡ Some (to, ask) → AsksHop request to ask
reserve-fits request replies to ask contract bounds alone is =
    of-place request (length (offers_in replies)) (reserve_of request (offers_in replies) (reach_after 0 request.route replies)) to ask is
    (λ hop found shape same. record {
      is_contract = contract;
      reach_most = reach-most 0 request.route replies bounds (omega arith);
      nothing_before = λ first. reach-none request.route replies (eqb-true (length (offers_in replies)) 0 first) alone;
    })

-- a relax to a level that its hop has
relax-fits : (request : Request) (levels : List ℕ) (left : ℕ) (to : LinkNo) (ask : Ask) → HaveBounds request.route → AreLevels request.route levels → length levels ≡ length request.route
    → asked request (relaxing request.route left levels) ≡ Some (to, ask) → AsksHop request to ask
relax-fits request levels zero to ask bounds are whole is = absurd (let clash : None ≡ Some (to, ask) = is in cc)
relax-fits request levels (suc left) to ask bounds are whole is =
    of-place request (suc left - 1) (relax_of request levels (suc left)) to ask is
    (λ hop found shape same.
    let within = slice_get_within request.route (suc left - 1) hop found in
    let own : IsLevelOf hop (get_or levels (suc left - 1) 0) = AreLevels-at request.route levels (suc left - 1) hop are found (omega (arith, within, whole)) in
    let few = (bounds-parts hop.bounds (HaveBounds-at request.route (suc left - 1) hop bounds found)).most in
    let number = level_of-number (get_or levels (suc left - 1) 0) own.least (omega (arith, own.most, few)) in
    record {
      level_most = omega (arith, number, own.most, ap length same);
      bound_most = given-most request.route levels (suc left - 1) bounds;
    })

-- on the way, and after the test
way-fits : (request : Request) (replies rest : List Reply) (to : LinkNo) (ask : Ask) → IsContract request.contract → HaveBounds request.route → after_offers replies ≡ rest
    → asked request (on_the_way (offers_in replies) (reach_after 0 request.route replies) rest) ≡ Some (to, ask) → AsksHop request to ask
way-fits request replies [] to ask contract bounds after is = reserve-fits request replies to ask contract bounds after is
way-fits request replies (first ∷ denied) to ask contract bounds after is = undone-fits request (length (offers_in replies) - length denied) _ to ask is

test-fits : (request : Request) (replies : List Reply) (denial : Option EndDenial) (to : LinkNo) (ask : Ask) → HaveBounds request.route → AreLevels request.route (offers_in replies) → length request.route ≤ length (offers_in replies)
    → denial_of request.route (offers_in replies) request.delay (jitter_of request.control) ≡ denial
    → asked request (after_test request (offers_in replies) (length (after_offers replies)) denial) ≡ Some (to, ask) → AsksHop request to ask
test-fits request replies (Some denial) to ask bounds are whole tested is = undone-fits request (length request.route - length (after_offers replies)) _ to ask is
test-fits request replies None to ask bounds are whole tested is =
    let levels = allotted request.route (offers_in replies) request.delay (jitter_of request.control) in
    let fit = allotted-fit request.route (offers_in replies) request.delay (jitter_of request.control) bounds are tested in
    let have = reach-have request.delay request.route (offers_in replies) levels fit.0 in
    relax-fits request levels (length request.route - length (after_offers replies)) to ask bounds have.0 (omega (arith, have.1, whole, levels-fit request.route (offers_in replies) are)) is

pub ask-fits : EverySetupAskFits
ask-fits request replies to ask contract bounds are is =
    elim (cases_lt (length (offers_in replies)) (length request.route)) [
      | inl fits ↦ way-fits request replies (after_offers replies) to ask contract bounds refl (subst (λ p. asked request p ≡ Some (to, ask)) (progress-on_the_way request replies fits) is)
      | inr whole ↦ test-fits request replies _ to ask bounds are whole refl (subst (λ p. asked request p ≡ Some (to, ask)) (progress-tested request replies whole) is)
    ]
