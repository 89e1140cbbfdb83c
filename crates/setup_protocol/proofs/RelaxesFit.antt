-- Where each offer tells the reach that a link tells, no relax of a setup is unfit; and each release goes to its hop.
use Rattle.std.proofs.Common.{◌≡◌, ℕ, zero, suc, ◌-◌, ◌<◌, ◌≤◌, true, Option, Some, None, List, [], ◌∷◌, length, take, get_or, max, inl, inr, ap, subst, sym, refl, ◌∙◌, arith}
use Rattle.std.specs.List.{slice_get}
use Rattle.std.proofs.lemmas.Bool.{cases_Bool, cases_lt}
use Rattle.std.proofs.lemmas.Option.{same_Some, slice_get_within}
use Rattle.net_units.specs.LevelBounds.{bound_at}
use Rattle.net_units.specs.Numbers.{level_number}
use Rattle.net_units.specs.declared.numbers.ChanNo.{ChanNo}
use Rattle.net_units.specs.declared.numbers.Level.{Level}
use Rattle.net_units.specs.declared.numbers.LinkNo.{LinkNo}
use Rattle.net_units.proofs.BoundsInOrder.{bounds-parts, bound_at-rising, within-count}
use Rattle.hop_reservation.specs.Offers.{AreLevels, IsLevelOf}
use Rattle.hop_reservation.specs.declared.route.Hop.{Hop}
use Rattle.hop_reservation.proofs.OneMoreOffer.{levels-fit, AreLevels-at}
use Rattle.link_steps.specs.Legal.{AskFits}
use Rattle.link_steps.specs.Levels.{level_of}
use Rattle.link_steps.specs.declared.asks.Ask.{Ask}
use Rattle.link_steps.specs.declared.asks.Ask.TheVariants.{Relax, Release, Deny as GiveBack}
use Rattle.link_steps.specs.declared.replies.Reply.{Reply}
use Rattle.link_steps.proofs.LevelByNumber.{level_of-number}
use Rattle.relaxation.specs.Allotment.{denial_of, allotted}
use Rattle.relaxation.specs.Laws.{HaveBounds, AreWithinReach}
use Rattle.relaxation.specs.declared.EndDenial.{EndDenial}
use Rattle.relaxation.proofs.RouteAllotment.{allotted-fit}
use Rattle.setup_protocol.specs.Requests.{jitter_of}
use Rattle.setup_protocol.specs.Setup.{is_offer, level_in, reach_in, offers_in, after_offers, reach_after, undoing, relaxing, on_the_way, after_test, asked, asked_of, reserve_of, relax_of, bound_if, bound_given, next_ask}
use Rattle.setup_protocol.specs.Teardown.{first_count}
use Rattle.setup_protocol.specs.WayBack.{TellReaches, IsFitRelax, EveryRelaxIsFit, EveryReleaseGoesToItsHop}
use Rattle.setup_protocol.specs.declared.request.Request.{Request}
use Rattle.setup_protocol.specs.declared.verdict.Deny.{Deny}
use Rattle.setup_protocol.proofs.SetupAsksFit.{HaveBounds-at}
use Rattle.setup_protocol.proofs.HopAsks.{asked-at}
use Rattle.setup_protocol.proofs.SetupAdvances.{progress-on_the_way, progress-tested}
use Rattle.setup_protocol.proofs.RouteLevels.{reach-have}

-- ---- a prefix of the offers

-- of so many replies as there are offers, or fewer, each is an offer
record AreOffersAlone (replies : List Reply) (count : ℕ) : Type 0 where
  offers : length (offers_in (take count replies)) ≡ count
  alone : after_offers (take count replies) ≡ []

front-offers : (replies : List Reply) (count : ℕ) → count ≤ length (offers_in replies) → AreOffersAlone replies count
unfolding offers_in after_offers
front-offers replies zero less = record { offers = refl; alone = refl }
front-offers [] (suc count) less = absurd (omega arith)
front-offers (first ∷ replies) (suc count) less =
    elim (cases_Bool (is_offer first)) [
      | inl offer ↦ (let rest = front-offers replies count (let k : suc count ≤ suc (length (offers_in replies)) = rw offer at less in omega (arith, k)) in
          record { offers = rw offer (ap suc rest.offers); alone = rw offer rest.alone })
      | inr plain ↦ absurd (let none : suc count ≤ 0 = rw plain at less in omega (arith, none))
    ]

-- ---- a level within the reach of its hop

-- the offer of the hop at this place, with a level from the offered one to the reach told
record IsFitOffer (replies : List Reply) (index level : ℕ) : Type 0 where
  offer : Reply
  replied : slice_get replies index ≡ Some offer
  offered : is_offer offer ≡ true
  from : level_in offer ≤ level
  upto : level ≤ reach_in offer

fit-at : (delay : ℕ) (hops : List Hop) (replies : List Reply) (levels : List ℕ) (index : ℕ) → AreWithinReach delay hops (offers_in replies) levels → TellReaches delay hops replies → index < length (offers_in replies)
    → IsFitOffer replies index (get_or levels index 0)
unfolding offers_in AreWithinReach TellReaches
fit-at delay hops [] levels index are tell less = absurd (omega arith)
fit-at delay hops (first ∷ replies) levels index are tell less =
    elim (cases_Bool (is_offer first)) [
      | inl offer ↦ go (λ hops levels index are tell less. fit-at delay hops replies levels index are tell less) hops levels index offer (rw offer at are) tell (rw offer at less)
      | inr plain ↦ absurd (let none : index < 0 = rw plain at less in omega (arith, none))
    ] where
      go : ((hops : List Hop) (levels : List ℕ) (index : ℕ) → AreWithinReach delay hops (offers_in replies) levels → TellReaches delay hops replies → index < length (offers_in replies) → IsFitOffer replies index (get_or levels index 0))
          → (hops : List Hop) (levels : List ℕ) (index : ℕ) → is_offer first ≡ true → AreWithinReach delay hops (level_in first ∷ offers_in replies) levels → TellReaches delay hops (first ∷ replies) → index < suc (length (offers_in replies))
          → IsFitOffer (first ∷ replies) index (get_or levels index 0)
      go next [] [] index offer are tell less = absurd are
      go next [] (level ∷ levels) index offer are tell less = absurd are
      go next (hop ∷ hops) [] index offer are tell less = absurd are
      go next (hop ∷ hops) (level ∷ levels) zero offer are tell less = (let told = (tell offer).0 in
          record { offer = first; replied = refl; offered = offer; from = are.0.from_offer; upto = omega (arith, told, are.0.up_to_reach) })
      go next (hop ∷ hops) (level ∷ levels) (suc index) offer are tell less = (let rest = next hops levels index are.1 (tell offer).1 (omega (arith, less)) in
          record { offer = rest.offer; replied = rest.replied; offered = rest.offered; from = rest.from; upto = rest.upto })

-- ---- the bound before a hop

-- the bound of the level that the hop at this place gets is within that of the reach that it told
given-within : (delay before : ℕ) (hops : List Hop) (replies : List Reply) (levels : List ℕ) (index : ℕ) → HaveBounds hops → AreWithinReach delay hops (offers_in replies) levels → TellReaches delay hops replies → index < length (offers_in replies)
    → bound_if (slice_get hops index) (get_or levels index 0) ≤ reach_after before hops (take (suc index) replies)
unfolding offers_in AreWithinReach TellReaches reach_after HaveBounds
given-within delay before hops [] levels index bounds are tell less = absurd (omega arith)
given-within delay before hops (first ∷ replies) levels index bounds are tell less =
    elim (cases_Bool (is_offer first)) [
      | inl offer ↦ go (λ start hops levels index bounds are tell less. given-within delay start hops replies levels index bounds are tell less) hops levels index offer bounds (rw offer at are) tell (rw offer at less)
      | inr plain ↦ absurd (let none : index < 0 = rw plain at less in omega (arith, none))
    ] where
      go : ((start : ℕ) (hops : List Hop) (levels : List ℕ) (index : ℕ) → HaveBounds hops → AreWithinReach delay hops (offers_in replies) levels → TellReaches delay hops replies → index < length (offers_in replies)
          → bound_if (slice_get hops index) (get_or levels index 0) ≤ reach_after start hops (take (suc index) replies))
          → (hops : List Hop) (levels : List ℕ) (index : ℕ) → is_offer first ≡ true → HaveBounds hops → AreWithinReach delay hops (level_in first ∷ offers_in replies) levels → TellReaches delay hops (first ∷ replies) → index < suc (length (offers_in replies))
          → bound_if (slice_get hops index) (get_or levels index 0) ≤ reach_after before hops (first ∷ take index replies)
      go next [] [] index offer bounds are tell less = absurd are
      go next [] (level ∷ levels) index offer bounds are tell less = absurd are
      go next (hop ∷ hops) [] index offer bounds are tell less = absurd are
      go next (hop ∷ hops) (level ∷ levels) zero offer bounds are tell less =
          let told = (tell offer).0 in
          let count = within-count hop.bounds (max delay (bound_at hop.bounds (level_in first))) in
          let near = bound_at-rising hop.bounds level (reach_in first) bounds.0 are.0.is_level.least (omega (arith, told, are.0.up_to_reach)) (omega (arith, told, count)) in
          rw offer near
      go next (hop ∷ hops) (level ∷ levels) (suc index) offer bounds are tell less =
          rw offer (next (bound_at hop.bounds (reach_in first)) hops levels index bounds.1 are.1 (tell offer).1 (omega (arith, less)))

-- the bound allotted to the hop before is within that of its reach
before-within : (delay : ℕ) (hops : List Hop) (replies : List Reply) (levels : List ℕ) (index : ℕ) → HaveBounds hops → AreWithinReach delay hops (offers_in replies) levels → TellReaches delay hops replies → index < length (offers_in replies)
    → bound_given hops levels index ≤ reach_after 0 hops (take index replies)
before-within delay hops replies levels zero bounds are tell less = omega arith
before-within delay hops replies levels (suc index) bounds are tell less = given-within delay 0 hops replies levels index bounds are tell (omega (arith, less))

-- ---- the reserve of a hop

reserve-asked : (request : Request) (replies : List Reply) (index : ℕ) (hop : Hop) → index < length (offers_in replies) → index < length request.route → slice_get request.route index ≡ Some hop
    → next_ask request (take index replies) ≡ Some (hop.link, reserve_of request (offers_in (take index replies)) (reach_after 0 request.route (take index replies)))
reserve-asked request replies index hop less within found =
    let front = take index replies in
    let alone = front-offers replies index (omega (arith, less)) in
    ap (asked request) (progress-on_the_way request front (omega (arith, alone.offers, within)) ∙ ap (on_the_way (offers_in front) (reach_after 0 request.route front)) alone.alone)
    ∙ ap (λ f. asked_of f (λ h. reserve_of request (offers_in front) (reach_after 0 request.route front))) (ap (slice_get request.route) alone.offers ∙ found)

-- ---- which asks are relaxes

-- an ask that isn't a relax
abbrev IsRelax : Ask → Type 0
IsRelax (Relax chan level up_bound) = Unit {0}
IsRelax _ = ⊥

-- an ask of a hop, if it is there, that isn't a relax isn't this one
no-relax : (found : Option Hop) (own ask : Ask) (to : LinkNo) → (IsRelax own → ⊥) → asked_of found (λ h. own) ≡ Some (to, ask) → IsRelax ask → ⊥
no-relax None own ask to other is relax = absurd (let clash : None ≡ Some (to, ask) = is in cc)
no-relax (Some hop) own ask to other is relax = other (subst IsRelax (sym (ap (λ pair. pair.1) (same_Some (hop.link, own) (to, ask) is))) relax)

no-relax-undoing : (request : Request) (left : ℕ) (deny : Deny) (ask : Ask) (to : LinkNo) → asked request (undoing left deny) ≡ Some (to, ask) → IsRelax ask → ⊥
no-relax-undoing request zero deny ask to is relax = absurd (let clash : None ≡ Some (to, ask) = is in cc)
no-relax-undoing request (suc left) deny ask to is relax = no-relax (slice_get request.route (suc left - 1)) (GiveBack request.chan) ask to (λ own. own) is relax

no-relax-on_the_way : (request : Request) (offers : List ℕ) (reach : ℕ) (rest : List Reply) (ask : Ask) (to : LinkNo) → asked request (on_the_way offers reach rest) ≡ Some (to, ask) → IsRelax ask → ⊥
no-relax-on_the_way request offers reach [] ask to is relax = no-relax (slice_get request.route (length offers)) (reserve_of request offers reach) ask to (λ own. own) is relax
no-relax-on_the_way request offers reach (first ∷ denied) ask to is relax = no-relax-undoing request (length offers - length denied) _ ask to is relax

-- ---- each relax is fit

-- two relaxes that are the same have the same parts
record IsSameRelax (chan other : ChanNo) (level own : Level) (up_bound bound : ℕ) : Type 0 where
  same_level : level ≡ own
  same_bound : up_bound ≡ bound

same-relax : (chan other : ChanNo) (level own : Level) (up_bound bound : ℕ) → Relax chan level up_bound ≡ Relax other own bound → IsSameRelax chan other level own up_bound bound
same-relax chan other level own up_bound bound is = record { same_level = cc; same_bound = cc }

relaxing-fit : (request : Request) (replies : List Reply) (levels : List ℕ) (left : ℕ) (to : LinkNo) (chan : ChanNo) (level : Level) (up_bound : ℕ) → HaveBounds request.route → AreLevels request.route levels
    → AreWithinReach request.delay request.route (offers_in replies) levels → TellReaches request.delay request.route replies → length levels ≡ length (offers_in replies) → length request.route ≡ length (offers_in replies)
    → asked request (relaxing request.route left levels) ≡ Some (to, Relax chan level up_bound) → IsFitRelax request replies to (level_number level) up_bound
relaxing-fit request replies levels zero to chan level up_bound bounds are within tell count whole is = absurd (let clash : None ≡ Some (to, Relax chan level up_bound) = is in cc)
relaxing-fit request replies levels (suc left) to chan level up_bound bounds are within tell count whole is = go (slice_get request.route (suc left - 1)) refl is where
  go : (found : Option Hop) → slice_get request.route (suc left - 1) ≡ found → asked_of found (λ h. relax_of request levels (suc left)) ≡ Some (to, Relax chan level up_bound) → IsFitRelax request replies to (level_number level) up_bound
  go None at is = absurd (let clash : None ≡ Some (to, Relax chan level up_bound) = is in cc)
  go (Some hop) at is =
      let both = same_Some (hop.link, relax_of request levels (suc left)) (to, Relax chan level up_bound) is in
      let link : hop.link ≡ to = ap (λ pair. pair.0) both in
      let parts = same-relax request.chan chan (level_of (get_or levels (suc left - 1) 0)) level (bound_given request.route levels (suc left - 1)) up_bound (ap (λ pair. pair.1) both) in
      let same : suc left - 1 ≡ left = omega arith in
      let found : slice_get request.route left ≡ Some hop = ap (slice_get request.route) (sym same) ∙ at in
      let less = slice_get_within request.route left hop found in
      let own : IsLevelOf hop (get_or levels left 0) = AreLevels-at request.route levels left hop are found (omega (arith, less, whole, count)) in
      let few = (bounds-parts hop.bounds (HaveBounds-at request.route left hop bounds found)).most in
      let number : level_number level ≡ get_or levels left 0 = ap level_number (sym parts.same_level) ∙ ap (λ i. level_number (level_of (get_or levels i 0))) same ∙ level_of-number (get_or levels left 0) own.least (omega (arith, own.most, few)) in
      let fit = fit-at request.delay request.route replies levels left within tell (omega (arith, less, whole)) in
      let before = before-within request.delay request.route replies levels left bounds within tell (omega (arith, less, whole)) in
      record {
        index = left;
        hop = hop;
        offer = fit.offer;
        stands = found;
        is_asked = sym link;
        reserved = reserve-asked request replies left hop (omega (arith, less, whole)) less found;
        replied = fit.replied;
        offered = fit.offered;
        from_offer = omega (arith, fit.from, number);
        up_to_reach = omega (arith, fit.upto, number);
        within_before = omega (arith, before, sym parts.same_bound, ap (bound_given request.route levels) same);
      }

tested-fit : (request : Request) (replies : List Reply) (denial : Option EndDenial) (to : LinkNo) (chan : ChanNo) (level : Level) (up_bound : ℕ) → HaveBounds request.route → AreLevels request.route (offers_in replies) → TellReaches request.delay request.route replies
    → length request.route ≤ length (offers_in replies) → denial_of request.route (offers_in replies) request.delay (jitter_of request.control) ≡ denial
    → asked request (after_test request (offers_in replies) (length (after_offers replies)) denial) ≡ Some (to, Relax chan level up_bound) → IsFitRelax request replies to (level_number level) up_bound
tested-fit request replies (Some denial) to chan level up_bound bounds are tell whole tested is = absurd (no-relax-undoing request (length request.route - length (after_offers replies)) _ (Relax chan level up_bound) to is tt)
tested-fit request replies None to chan level up_bound bounds are tell whole tested is =
    let levels = allotted request.route (offers_in replies) request.delay (jitter_of request.control) in
    let fit = allotted-fit request.route (offers_in replies) request.delay (jitter_of request.control) bounds are tested in
    let have = reach-have request.delay request.route (offers_in replies) levels fit.0 in
    relaxing-fit request replies levels (length request.route - length (after_offers replies)) to chan level up_bound bounds have.0 fit.0 tell have.1 (omega (arith, whole, levels-fit request.route (offers_in replies) are)) is

pub relax-fit : EveryRelaxIsFit
relax-fit request replies to chan level up_bound bounds are tell is =
    elim (cases_lt (length (offers_in replies)) (length request.route)) [
      | inl fits ↦ absurd (no-relax-on_the_way request (offers_in replies) (reach_after 0 request.route replies) (after_offers replies) (Relax chan level up_bound) to (subst (λ p. asked request p ≡ Some (to, Relax chan level up_bound)) (progress-on_the_way request replies fits) is) tt)
      | inr whole ↦ tested-fit request replies _ to chan level up_bound bounds are tell whole refl (subst (λ p. asked request p ≡ Some (to, Relax chan level up_bound)) (progress-tested request replies whole) is)
    ]

-- ---- each release goes to its hop

pub release-at : EveryReleaseGoesToItsHop
release-at chan route replies to ask is =
    let own = asked-at route (length replies) (λ hop. Release chan (first_count replies)) to ask is in
    record {
      hop = own.hop;
      stands = own.stands;
      is_asked = own.at;
      releases = own.is;
      fits = λ shape. subst (AskFits shape) (sym own.is) tt;
    }
