-- One reply more to a setup: where the reply is the one that the reservation of the hop asked gives, and that hop then holds
-- what the reply makes of it while the others hold what they held, the reply is one to its ask, and all hops hold what the
-- replies with it have made.
use Rattle.std.proofs.Common.{◌≡◌, ◌≢◌, ℕ, zero, suc, ◌+◌, ◌-◌, ◌<◌, ◌≤◌, true, false, List, [], ◌∷◌, ◌++◌, length, get_or, Option, Some, None, refl, sym, ap, ◌∙◌, subst, inl, inr, arith}
use Rattle.std.proofs.lemmas.Bool.{cases_Bool, eqb-true, eqb-false, le-leb, and_from}
use Rattle.std.proofs.lemmas.List.{length_push, get_or_push}
use Rattle.std.specs.List.{slice_get}
use Rattle.std.specs.Option.{option_map}
use Rattle.std.specs.Prelude.{nat_eq, max}
use Rattle.net_units.specs.LevelBounds.{bound_at, levels_within}
use Rattle.net_units.specs.Numbers.{level_number}
use Rattle.net_units.specs.declared.numbers.Level.{Level}
use Rattle.net_units.specs.declared.numbers.LinkNo.{LinkNo}
use Rattle.net_units.proofs.BoundsInOrder.{bound_at-rising, bounds-parts, within-count}
use Rattle.hop_reservation.specs.Offers.{AreLevels, next_levels, next_bound}
use Rattle.hop_reservation.specs.declared.route.Hop.{Hop}
use Rattle.hop_reservation.proofs.OneMoreOffer.{next_levels-at, next_bound-at}
use Rattle.link_steps.specs.declared.asks.Ask.{Ask}
use Rattle.link_steps.specs.declared.asks.Ask.TheVariants.{Relax, Deny}
use Rattle.link_steps.specs.declared.replies.Refusal.{Refusal}
use Rattle.link_steps.specs.declared.replies.Reply.{Reply}
use Rattle.link_steps.specs.declared.replies.Reply.TheVariants as Is
use Rattle.link_steps.specs.Levels.{level_of}
use Rattle.link_steps.specs.Replies.{relax_reply}
use Rattle.link_steps.specs.Reservation.{Reservation, tentative, committed}
use Rattle.link_steps.proofs.LevelByNumber.{level_of-number}
use Rattle.relaxation.specs.Allotment.{allotted}
use Rattle.relaxation.specs.Laws.{HaveBounds, AreWithinReach}
use Rattle.relaxation.proofs.RouteAllotment.{allotted-fit, AreWithinReach-at}
use Rattle.setup_protocol.specs.Requests.{kind_of, jitter_of}
use Rattle.setup_protocol.specs.Setup.{Progress, Reserving, is_offer, level_in, reach_in, offers_in, after_offers, reach_after, undoing, relaxing, asked, hop_link, reserve_of, relax_of, bound_if, bound_given, next_ask, progress_of, is_expected, is_reserve_refusal, answers_reserve}
use Rattle.setup_protocol.specs.State.{with_offers, after_reserve, advance}
use Rattle.setup_protocol.specs.declared.request.Request.{Request}
use Rattle.setup_protocol.specs.declared.verdict.Deny.{Deny as Denial}
use Rattle.setup_protocol.proofs.SetupAsksFit.{HaveBounds-at}
use Rattle.setup_protocol.proofs.HopAsks.{AskedAt, asked-at}
use Rattle.setup_protocol.proofs.HopHolds.{bounds_in, reach_at, reach_bound, IsTent, IsComm, HopStands, View, OnWay, Back, Forth, view, undo-stands, relax-stands, offers-stands, undo-says, relax-says, up-kept, tent-kept}
use Rattle.setup_protocol.proofs.SetupAdvances.{offers-other, offers-more, after-other, reach-more, progress-advances}
use Rattle.setup_protocol.proofs.SetupReplies.{IsReserved, relax-tentative}

-- ---- what is asked, and of which hop

-- the relax to the level that a hop is allotted
abbrev pub relax_at : Request → List ℕ → ℕ → Ask
relax_at request levels k = Relax request.chan (level_of (get_or levels k 0)) (bound_given request.route levels k)

-- the hop after those that have offered is asked to reserve; hop k, from 0, is the last that has neither given its row back nor
-- been relaxed
pub data SetupAsks (request : Request) (replies : List Reply) (to : LinkNo) (ask : Ask) : Type 0 where
  Reserves : length (offers_in replies) < length request.route → after_offers replies ≡ [] → progress_of request replies ≡ Reserving (offers_in replies) (reach_after 0 request.route replies)
      → AskedAt request.route (length (offers_in replies)) (λ hop. reserve_of request (offers_in replies) (reach_after 0 request.route replies)) to ask → SetupAsks request replies to ask
  GivesBack : (k : ℕ) (deny : Denial) → progress_of request replies ≡ undoing (suc k) deny → AskedAt request.route k (λ hop. Deny request.chan) to ask → SetupAsks request replies to ask
  Relaxes : (k : ℕ) (levels : List ℕ) → k < length (offers_in replies) → AreWithinReach request.delay request.route (offers_in replies) levels → progress_of request replies ≡ relaxing request.route (suc k) levels
      → AskedAt request.route k (λ hop. relax_at request levels k) to ask → SetupAsks request replies to ask

back-asks : (request : Request) (replies : List Reply) (left : ℕ) (deny : Denial) (to : LinkNo) (ask : Ask)
    → progress_of request replies ≡ undoing left deny → asked request (undoing left deny) ≡ Some (to, ask)
    → SetupAsks request replies to ask
back-asks request replies zero deny to ask is asks = absurd (let clash : None ≡ Some (to, ask) = asks in cc)
back-asks request replies (suc k) deny to ask is asks =
    let place : suc k - 1 ≡ k = omega arith in
    GivesBack k deny is (subst (λ j. AskedAt request.route j (λ hop. Deny request.chan) to ask) place (asked-at request.route (suc k - 1) (λ hop. Deny request.chan) to ask asks))

forth-asks : (request : Request) (replies : List Reply) (left : ℕ) (levels : List ℕ) (to : LinkNo) (ask : Ask) → left ≤ length request.route
    → length request.route ≤ length (offers_in replies) → AreWithinReach request.delay request.route (offers_in replies) levels
    → progress_of request replies ≡ relaxing request.route left levels → asked request (relaxing request.route left levels) ≡ Some (to, ask)
    → SetupAsks request replies to ask
forth-asks request replies zero levels to ask few whole within is asks = absurd (let clash : None ≡ Some (to, ask) = asks in cc)
forth-asks request replies (suc k) levels to ask few whole within is asks =
    let place : suc k - 1 ≡ k = omega arith in
    Relaxes k levels (omega (arith, few, whole)) within is (subst (λ j. AskedAt request.route j (λ hop. relax_at request levels j) to ask) place (asked-at request.route (suc k - 1) (λ hop. relax_of request levels (suc k)) to ask asks))

pub setup-asks : (request : Request) (replies : List Reply) (to : LinkNo) (ask : Ask) → HaveBounds request.route
    → AreLevels request.route (offers_in replies) → next_ask request replies ≡ Some (to, ask) → SetupAsks request replies to ask
setup-asks request replies to ask bounds are asks = by-view (view request replies) where
  by-view : View request replies → SetupAsks request replies to ask
  by-view (OnWay fewer alone is) = Reserves fewer alone is (asked-at request.route (length (offers_in replies)) (λ hop. reserve_of request (offers_in replies) (reach_after 0 request.route replies)) to ask (subst (λ p. asked request p ≡ Some (to, ask)) is asks))
  by-view (Back left deny few is) = back-asks request replies left deny to ask is (subst (λ p. asked request p ≡ Some (to, ask)) is asks)
  by-view (Forth left few whole tested is) =
      forth-asks request replies left (allotted request.route (offers_in replies) request.delay (jitter_of request.control)) to ask few whole (allotted-fit request.route (offers_in replies) request.delay (jitter_of request.control) bounds are tested).0 is
      (subst (λ p. asked request p ≡ Some (to, ask)) is asks)

-- ---- the levels allotted

-- the bound allotted to the hop before is within that of its reach
given-within : (request : Request) (offers levels : List ℕ) → HaveBounds request.route
    → AreWithinReach request.delay request.route offers levels → (j : ℕ) → j < length offers
    → bound_given request.route levels j ≤ reach_bound request offers j
given-within request offers levels bounds within zero less = omega arith
given-within request offers levels bounds within (suc j) less = by-hop (slice_get request.route j) refl where
  by-hop : (found : Option Hop) → slice_get request.route j ≡ found → bound_if found (get_or levels j 0) ≤ bound_at (bounds_in found) (levels_within (bounds_in found) (max request.delay (bound_at (bounds_in found) (get_or offers j 0))))
  by-hop None none = omega arith
  by-hop (Some hop) found =
      let fit = AreWithinReach-at request.delay request.route offers levels j hop within found (omega (arith, less)) in
      bound_at-rising hop.bounds (get_or levels j 0) (levels_within hop.bounds (max request.delay (bound_at hop.bounds (get_or offers j 0)))) (HaveBounds-at request.route j hop bounds found) fit.is_level.least fit.up_to_reach (within-count hop.bounds (max request.delay (bound_at hop.bounds (get_or offers j 0))))

module _ {X : Type 0} (holds : Reservation → X) (request : Request) (offers levels : List ℕ) (k : ℕ) (hop : Hop) (held : X) (bounds : HaveBounds request.route) (within : AreWithinReach request.delay request.route offers levels) (stands : slice_get request.route k ≡ Some hop) (less : k < length offers) (tent : IsTent holds request offers k held) where
  -- the level is one of its hop's
  level-number : level_number (level_of (get_or levels k 0)) ≡ get_or levels k 0
  level-number =
      let fit = AreWithinReach-at request.delay request.route offers levels k hop within stands less in
      let few = (bounds-parts hop.bounds (HaveBounds-at request.route k hop bounds stands)).most in
      let most = fit.is_level.most in
      level_of-number (get_or levels k 0) fit.is_level.least (omega (arith, most, few))

  -- so the relax is not refused
  pub relax-told : (t : ℕ)
      → relax_reply t (level_of (get_or levels k 0)) (bound_given request.route levels k) (Some tent.terms) ≡ Is.Relaxed t
  relax-told t =
      let fit = AreWithinReach-at request.delay request.route offers levels k hop within stands less in
      let number = level-number in
      let reach : level_number tent.terms.reach ≡ levels_within hop.bounds (max request.delay (bound_at hop.bounds (get_or offers k 0))) = tent.reach ∙ ap (λ bs. levels_within bs (max request.delay (bound_at bs (get_or offers k 0)))) (ap bounds_in stands) in
      relax-tentative t tent.terms (level_of (get_or levels k 0)) (bound_given request.route levels k) tent.phase
      (let l = tent.level in let f = fit.from_offer in omega (arith, number, l, f)) (let f = fit.up_to_reach in omega (arith, number, reach, f)) (subst (λ u. bound_given request.route levels k ≤ u) (sym tent.up_reach) (given-within request offers levels bounds within k less))

  -- and leaves the hop committed
  relaxed-comm : (new : X) → new ≡ holds (committed (level_of (get_or levels k 0)) (bound_given request.route levels k) tent.terms)
      → IsComm holds request levels k new
  relaxed-comm new is = record {
    terms = committed (level_of (get_or levels k 0)) (bound_given request.route levels k) tent.terms;
    is = is;
    phase = refl;
    level = level-number;
    up_bound = refl;
    first = tent.first;
  }

-- ---- one reply more

-- at place k what is held is new, and elsewhere it is what it was
pub record Changes {X : Type 0} (At : ℕ → Type 0) (now later : (i : ℕ) → At i → X) (k : ℕ) (new : X) : Type 0 where
  pub here : (i : ℕ) (at : At i) → i ≡ k → later i at ≡ new
  pub elsewhere : (i : ℕ) (at : At i) → i ≢ k → later i at ≡ now i at

-- the terms of an offer
abbrev pub offer_of : Request → List Reply → Level → Level → Reservation
offer_of request replies level reach =
    tentative request.chan request.contract (kind_of request.control) (nat_eq (length (offers_in replies)) 0) (option_map hop_link (slice_get request.route (suc (length (offers_in replies))))) (reach_after 0 request.route replies) level reach

-- what stands after these replies
pub record RouteStands {X : Type 0} (free : X) (holds : Reservation → X) (request : Request) (At : ℕ → Type 0) (now : (i : ℕ) → At i → X) (replies : List Reply) : Type 0 where
  pub hops : (i : ℕ) (at : At i) → HopStands free holds request (offers_in replies) (progress_of request replies) i (now i at)
  pub up : after_offers replies ≡ []
      → reach_after 0 request.route replies ≡ reach_bound request (offers_in replies) (length (offers_in replies))

-- and with one reply more, which is one of its ask's
pub record RouteGoes {X : Type 0} (free : X) (holds : Reservation → X) (request : Request) (At : ℕ → Type 0) (later : (i : ℕ) → At i → X) (replies : List Reply) (reply : Reply) : Type 0 where
  pub expected : is_expected request (progress_of request replies) reply ≡ true
  pub stands : RouteStands free holds request At later (replies ++ reply ∷ [])

not-empty : (xs : List Reply) (reply : Reply) → xs ++ reply ∷ [] ≡ [] → ⊥
not-empty [] reply e = cc
not-empty (x ∷ xs) reply e = cc

module _ {X : Type 0} (free : X) (holds : Reservation → X) (request : Request) (At : ℕ → Type 0) (now later : (i : ℕ) → At i → X) (replies : List Reply) (reply : Reply) (stood : RouteStands free holds request At now replies) where
  -- a reply that is no offer
  plain-goes : (p : Progress) → is_offer reply ≡ false → is_expected request (progress_of request replies) reply ≡ true
      → progress_of request (replies ++ reply ∷ []) ≡ p
      → ((i : ℕ) (at : At i) → HopStands free holds request (offers_in replies) p i (later i at))
      → RouteGoes free holds request At later replies reply
  plain-goes p plain expected goes hops = record {
    expected = expected;
    stands = record {
      hops = λ i at. subst (λ (x : List ℕ × Progress). HopStands free holds request x.0 x.1 i (later i at)) (λ j. (sym (offers-other replies reply plain) j, sym goes j)) (hops i at);
      up = λ alone. absurd (not-empty (after_offers replies) reply (sym (after-other replies reply plain) ∙ alone));
    };
  }

  -- hop k holds the reservation of its offer until it gives it back, or is relaxed
  pub back-tent : (k : ℕ) (deny : Denial) → progress_of request replies ≡ undoing (suc k) deny → (at : At k)
      → IsTent holds request (offers_in replies) k (now k at)
  back-tent k deny is at = (undo-says free holds request (offers_in replies) (suc k) deny k (now k at) (subst (λ p. HopStands free holds request (offers_in replies) p k (now k at)) is (stood.hops k at))).0 (omega arith)

  pub forth-tent : (k : ℕ) (levels : List ℕ) → progress_of request replies ≡ relaxing request.route (suc k) levels → (at : At k)
      → IsTent holds request (offers_in replies) k (now k at)
  forth-tent k levels is at = (relax-says free holds request (offers_in replies) (suc k) levels k (now k at) (subst (λ p. HopStands free holds request (offers_in replies) p k (now k at)) is (stood.hops k at))).0 (omega arith)

  -- hop k has given its reservation back
  pub back-goes : (k : ℕ) (deny : Denial) → progress_of request replies ≡ undoing (suc k) deny → reply ≡ Is.Denied
      → Changes At now later k free → RouteGoes free holds request At later replies reply
  back-goes k deny is told changes =
      let expected : is_expected request (progress_of request replies) reply ≡ true = ap (λ r. is_expected request (progress_of request replies) r) told ∙ ap (λ p. is_expected request p Is.Denied) is in
      let goes : progress_of request (replies ++ reply ∷ []) ≡ undoing (suc k - 1) deny = progress-advances request replies reply expected ∙ ap (λ p. advance request p reply) is in
      let says : (i : ℕ) (at : At i) → (i < suc k → IsTent holds request (offers_in replies) i (now i at)) × (suc k ≤ i → now i at ≡ free) =
      λ i at. undo-says free holds request (offers_in replies) (suc k) deny i (now i at) (subst (λ p. HopStands free holds request (offers_in replies) p i (now i at)) is (stood.hops i at)) in
      plain-goes (undoing (suc k - 1) deny) (ap is_offer told) expected goes
      (λ i at. undo-stands free holds request (offers_in replies) (suc k - 1) deny i (later i at)
      (λ less. subst (IsTent holds request (offers_in replies) i) (sym (changes.elsewhere i at (λ same. omega (arith, same, less)))) ((says i at).0 (omega (arith, less))))
      (λ from. elim (cases_Bool (nat_eq i k)) [
        | inl hit ↦ changes.here i at (eqb-true i k hit)
        | inr miss ↦ (let other = eqb-false i k miss in changes.elsewhere i at other ∙ (says i at).1 (omega (arith, from, other)))
      ]))

  -- hop k has been relaxed
  pub forth-goes : (k : ℕ) (levels : List ℕ) (t : ℕ) (hop : Hop) (held : X) → HaveBounds request.route
      → AreWithinReach request.delay request.route (offers_in replies) levels → slice_get request.route k ≡ Some hop
      → k < length (offers_in replies) → progress_of request replies ≡ relaxing request.route (suc k) levels
      → (tent : IsTent holds request (offers_in replies) k held) → reply ≡ Is.Relaxed t
      → Changes At now later k (holds (committed (level_of (get_or levels k 0)) (bound_given request.route levels k) tent.terms))
      → RouteGoes free holds request At later replies reply
  forth-goes k levels t hop held bounds within stands_at inside is tent told changes =
      let expected : is_expected request (progress_of request replies) reply ≡ true = ap (λ r. is_expected request (progress_of request replies) r) told ∙ ap (λ p. is_expected request p (Is.Relaxed t)) is in
      let goes : progress_of request (replies ++ reply ∷ []) ≡ relaxing request.route (suc k - 1) levels = progress-advances request replies reply expected ∙ ap (λ p. advance request p reply) is in
      let says : (i : ℕ) (at : At i) → (i < suc k → IsTent holds request (offers_in replies) i (now i at)) × (suc k ≤ i → IsComm holds request levels i (now i at)) =
      λ i at. relax-says free holds request (offers_in replies) (suc k) levels i (now i at) (subst (λ p. HopStands free holds request (offers_in replies) p i (now i at)) is (stood.hops i at)) in
      plain-goes (relaxing request.route (suc k - 1) levels) (ap is_offer told) expected goes
      (λ i at. relax-stands free holds request (offers_in replies) (suc k - 1) levels i (later i at)
      (λ less. subst (IsTent holds request (offers_in replies) i) (sym (changes.elsewhere i at (λ same. omega (arith, same, less)))) ((says i at).0 (omega (arith, less))))
      (λ from. elim (cases_Bool (nat_eq i k)) [
        | inl hit ↦
            (let same : i ≡ k = eqb-true i k hit in
            subst (λ j. IsComm holds request levels j (later i at)) (sym same) (relaxed-comm holds request (offers_in replies) levels k hop held bounds within stands_at inside tent (later i at) (changes.here i at same)))
        | inr miss ↦ (let other = eqb-false i k miss in subst (IsComm holds request levels i) (sym (changes.elsewhere i at other)) ((says i at).1 (omega (arith, from, other))))
      ]))

  -- ---- the reply to a reserve

  module _ (alone : after_offers replies ≡ []) (is : progress_of request replies ≡ Reserving (offers_in replies) (reach_after 0 request.route replies)) where
    way-says : (i : ℕ) (at : At i) → HopStands free holds request (offers_in replies) (Reserving (offers_in replies) (reach_after 0 request.route replies)) i (now i at)
    way-says i at = subst (λ p. HopStands free holds request (offers_in replies) p i (now i at)) is (stood.hops i at)

    -- the hop that is asked holds nothing yet
    pub way-free : (at : At (length (offers_in replies))) → now (length (offers_in replies)) at ≡ free
    way-free at = (way-says (length (offers_in replies)) at).tail (omega arith)

    pub refused-goes : (refusal : Refusal) → reply ≡ Is.Refused refusal → is_reserve_refusal refusal ≡ true → Changes At now later (length (offers_in replies)) free → RouteGoes free holds request At later replies reply
    refused-goes refusal told usual changes =
        let n : ℕ = length (offers_in replies) in
        let expected : is_expected request (progress_of request replies) reply ≡ true = ap (is_expected request (progress_of request replies)) told ∙ ap (λ p. is_expected request p (Is.Refused refusal)) is ∙ usual in
        let goes : progress_of request (replies ++ reply ∷ []) ≡ after_reserve request (offers_in replies) (Is.Refused refusal) = progress-advances request replies reply expected ∙ ap (λ p. advance request p reply) is ∙ ap (after_reserve request (offers_in replies)) told in
        plain-goes _ (ap is_offer told) expected goes
        (λ i at. undo-stands free holds request (offers_in replies) n _ i (later i at)
        (λ less. subst (IsTent holds request (offers_in replies) i) (sym (changes.elsewhere i at (λ same. omega (arith, same, less)))) ((way-says i at).tent less))
        (λ from. elim (cases_Bool (nat_eq i n)) [
          | inl hit ↦ changes.here i at (eqb-true i n hit)
          | inr miss ↦ changes.elsewhere i at (eqb-false i n miss) ∙ (way-says i at).tail from
        ]))

    module _ (level reach : Level) (hop : Hop) (stands_at : slice_get request.route (length (offers_in replies)) ≡ Some hop) (reserved : IsReserved hop.bounds request.delay (Is.Offer level reach)) (told : reply ≡ Is.Offer level reach) where
      abbrev offers' : List ℕ
      offers' = offers_in replies ++ level_number level ∷ []

      last : get_or offers' (length (offers_in replies)) 0 ≡ level_number level
      last = get_or_push (offers_in replies) (level_number level) 0 (length (offers_in replies)) refl

      far : reach_at request offers' (length (offers_in replies)) ≡ level_number reach
      far =
          ap (λ o. levels_within (bounds_in (slice_get request.route (length (offers_in replies)))) (max request.delay (bound_at (bounds_in (slice_get request.route (length (offers_in replies)))) o))) last
          ∙ ap (λ bs. levels_within bs (max request.delay (bound_at bs (level_number level)))) (ap bounds_in stands_at)
          ∙ sym reserved.0

      -- the reservation of the hop that offers
      new-tent : (i : ℕ) (held : X) → i ≡ length (offers_in replies) → held ≡ holds (offer_of request replies level reach) → IsTent holds request offers' i held
      new-tent i held same held_is = record {
        terms = offer_of request replies level reach;
        is = held_is;
        phase = refl;
        level = sym last ∙ ap (λ j. get_or offers' j 0) (sym same);
        reach = sym far ∙ ap (reach_at request offers') (sym same);
        up_reach = stood.up alone ∙ sym (up-kept request (offers_in replies) (level_number level) (length (offers_in replies)) (omega arith)) ∙ ap (reach_bound request offers') (sym same);
        first = ap (λ j. nat_eq j 0) (sym same);
      }

      pub offer-goes : (within : (i : ℕ) → At i → i < length request.route) → length (offers_in replies) < length request.route → Changes At now later (length (offers_in replies)) (holds (offer_of request replies level reach)) → RouteGoes free holds request At later replies reply
      offer-goes within fewer changes =
          let n : ℕ = length (offers_in replies) in
          let count : next_levels request.route (offers_in replies) ≡ length hop.bounds = next_levels-at request.route (offers_in replies) hop stands_at in
          let offer : is_offer reply ≡ true = ap is_offer told in
          let fits-level : answers_reserve (next_levels request.route (offers_in replies)) (Is.Offer level reach) ≡ true =
          and_from _ _ (le-leb (level_number level) (next_levels request.route (offers_in replies)) (omega (arith, count, reserved.1))) (le-leb (level_number reach) (next_levels request.route (offers_in replies)) (omega (arith, count, reserved.2))) in
          let expected : is_expected request (progress_of request replies) reply ≡ true = ap (is_expected request (progress_of request replies)) told ∙ ap (λ p. is_expected request p (Is.Offer level reach)) is ∙ fits-level in
          let offers : offers_in (replies ++ reply ∷ []) ≡ offers' = offers-more replies reply alone offer ∙ ap (λ l. offers_in replies ++ l ∷ []) (ap level_in told) in
          let goes : progress_of request (replies ++ reply ∷ []) ≡ with_offers request offers' (next_bound request.route (offers_in replies) (level_number reach)) =
          progress-advances request replies reply expected ∙ ap (λ p. advance request p reply) is ∙ ap (after_reserve request (offers_in replies)) told in
          let more : length offers' ≡ n + 1 = length_push (offers_in replies) (level_number level) in
          record {
            expected = expected;
            stands = record {
              hops = λ i at. subst (λ (x : List ℕ × Progress). HopStands free holds request x.0 x.1 i (later i at)) (λ j. (sym offers j, sym goes j))
                  (offers-stands free holds request offers' _ i (later i at) (within i at)
                  (λ less. elim (cases_Bool (nat_eq i n)) [
                    | inl hit ↦ (let same = eqb-true i n hit in new-tent i (later i at) same (changes.here i at same))
                    | inr miss ↦
                        (let other = eqb-false i n miss in
                        subst (IsTent holds request offers' i) (sym (changes.elsewhere i at other)) (tent-kept holds request (offers_in replies) (level_number level) i (now i at) (omega (arith, less, more, other)) ((way-says i at).tent (omega (arith, less, more, other)))))
                  ])
                  (λ from. (let other : i ≢ n = λ same. omega (arith, same, from, more) in changes.elsewhere i at other ∙ (way-says i at).tail (omega (arith, from, more)))));
              up = λ still. reach-more 0 request.route replies reply alone offer fewer ∙ next_bound-at request.route (offers_in replies) hop (reach_in reply) stands_at ∙ ap (bound_at hop.bounds) (ap reach_in told)
                  ∙ ap (bound_at hop.bounds) (sym far) ∙ ap (λ bs. bound_at bs (reach_at request offers' n)) (sym (ap bounds_in stands_at))
                  ∙ ap (reach_bound request offers') (sym (more ∙ add-one-is n)) ∙ ap (λ os. reach_bound request os (length os)) (sym offers);
            };
          } where
            add-one-is : (m : ℕ) → m + 1 ≡ suc m
            add-one-is m = omega arith
