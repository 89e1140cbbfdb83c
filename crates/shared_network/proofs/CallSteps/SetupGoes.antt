-- Each reply to a setup is one of its ask's, and the hops then hold what the replies with it have made.
use Rattle.std.proofs.Common.{◌≡◌, ◌≢◌, ℕ, suc, ◌<◌, eqb, true, false, cond, List, [], ◌∷◌, ◌++◌, length, get_or, Some, refl, sym, ap, ◌∙◌, subst}
use Rattle.shared_network.proofs.Words.{eq-eqb, same_Some, slice_get_within, slice_get, channel_number, link_number, level_number, ChanNo, link_of, Hop, deny_reply, relax_reply, reply_at, committed, Link, Ask, Deny, Reply, Reserving, is_offer, level_in, offers_in, after_offers, reach_after, undoing, relaxing, asked, reserve_of, bound_given, next_ask, progress_of, is_expected, Request, held_by, IsLink, own_at, OwnEntry, IsHopOf, RequestFits}
use Rattle.hop_reservation.specs.Offers.{AreLevels}
use Rattle.hop_reservation.proofs.OneMoreOffer.{AreLevels-push}
use Rattle.link_steps.specs.Admissible.{MayAnswer}
use Rattle.link_steps.specs.Levels.{level_of}
use Rattle.link_steps.specs.declared.replies.Reply.TheVariants as Is
use Rattle.relaxation.specs.Laws.{AreWithinReach}
use Rattle.setup_protocol.specs.declared.verdict.Deny.{Deny as Denial}
use Rattle.setup_protocol.proofs.SetupAdvances.{offers-other, offers-more}
use Rattle.link_steps.proofs.ListParts.{Each-at}
use Rattle.link_ledger.proofs.OwnStaysExact.{one-at, none-at}
use Rattle.shared_network.specs.Calls.{hold_at}
use Rattle.shared_network.specs.Holds.{Hold, Free, Holds, reserved, denied, hold_with, hold_of, IsHeld}
use Rattle.shared_network.proofs.Held.HoldsByOwner.{hold-more}
use Rattle.shared_network.proofs.Held.HoldSteps.{AnswersOf}
use Rattle.hop_reservation.proofs.DistinctLinks.{index-apart}
use Rattle.setup_protocol.proofs.HopAsks.{AskedAt}
use Rattle.setup_protocol.proofs.SetupReplies.{IsReserved, reserve-reply, deny-tentative}
use Rattle.setup_protocol.proofs.StepHolds.{SetupAsks, Reserves, GivesBack, Relaxes, setup-asks, relax_at, relax-told, Changes, offer_of, RouteStands, RouteGoes, back-tent, forth-tent, back-goes, forth-goes, way-free, refused-goes, offer-goes}

-- a hop of its route
pub record HopOf (request : Request) (i : ℕ) : Type 0 where
  pub hop : Hop
  pub stands : slice_get request.route i ≡ Some hop

-- the hops hold what the replies have made, the offers are levels of their hops, and the reach before the next hop is that of
-- the last offer
pub record SetupRows (request : Request) (own : List OwnEntry) (replies : List Reply) : Type 0 where
  pub stands : RouteStands Free Holds request (HopOf request) (λ i at. hold_at request.chan at.hop own) replies
  pub levels : AreLevels request.route (offers_in replies)

-- ---- what an entry makes of a hold

pub hold-elsewhere : (chan : ChanNo) (hop : Hop) (own : List OwnEntry) (e : OwnEntry) → link_number e.link ≢ link_of hop → hold_at chan hop (own ++ e ∷ []) ≡ hold_at chan hop own
hold-elsewhere chan hop own e other = ap (hold_of (channel_number chan)) (none-at (link_number e.link) (link_of hop) own e refl (λ same. other (sym same)))

pub hold-here : (chan : ChanNo) (hop : Hop) (own : List OwnEntry) (e : OwnEntry) → link_number e.link ≡ link_of hop → hold_at chan hop (own ++ e ∷ []) ≡ hold_with (channel_number chan) (hold_at chan hop own) e.ask e.reply
hold-here chan hop own e on = ap (hold_of (channel_number chan)) (one-at (link_of hop) own e on) ∙ hold-more (channel_number chan) Free (own_at (link_of hop) own) e

pub on-own : (chan : ChanNo) (one other : Hold) → cond (eqb (channel_number chan) (channel_number chan)) one other ≡ one
on-own chan one other = ap (λ b. cond b one other) (eq-eqb (channel_number chan) (channel_number chan) refl)

-- ---- one reply to the setup

-- it is one of its ask's, and the hops then hold what the replies with it have made
pub record SetupGoes (request : Request) (own : List OwnEntry) (replies : List Reply) (e : OwnEntry) : Type 0 where
  pub expected : is_expected request (progress_of request replies) e.reply ≡ true
  pub rows : SetupRows request (own ++ e ∷ []) (replies ++ e.reply ∷ [])

module _ (links : List Link) (request : Request) (own : List OwnEntry) (replies : List Reply) (e : OwnEntry) (link : Link) (sound : RequestFits links request) (is_link : IsLink links (link_number e.link) link) (ans : AnswersOf link request.chan (hold_of (channel_number request.chan) (own_at (link_number e.link) own)) e.ask e.reply) (rows : SetupRows request own replies) where
  abbrev now : (i : ℕ) → HopOf request i → Hold
  now i at = hold_at request.chan at.hop own

  abbrev later : (i : ℕ) → HopOf request i → Hold
  later i at = hold_at request.chan at.hop (own ++ e ∷ [])

  -- the reply at a hop over the link that is asked
  answers-at : (hop : Hop) → link_number e.link ≡ link_of hop → AnswersOf link request.chan (hold_at request.chan hop own) e.ask e.reply
  answers-at hop on = subst (λ l. AnswersOf link request.chan (hold_of (channel_number request.chan) (own_at l own)) e.ask e.reply) on ans

  bounds-at : (k : ℕ) (here : HopOf request k) → link_number e.link ≡ link_of here.hop → here.hop.bounds ≡ link.shape.bounds
  bounds-at k here on =
      let is = Each-at (IsHopOf links) request.route k here.hop sound.hops here.stands in
      is.bounds ∙ ap (λ (l : Link). l.shape.bounds) (same_Some is.link link (sym is.linked ∙ ap (slice_get links) (sym on) ∙ is_link))

  -- it holds what the entry makes of what it held, and each other hop holds what it held
  changes-at : (k : ℕ) (here : HopOf request k) (ask : Ask) (reply : Reply) (new : Hold) → link_number e.link ≡ link_of here.hop → e.ask ≡ ask → e.reply ≡ reply → hold_with (channel_number request.chan) (now k here) ask reply ≡ new → Changes (HopOf request) now later k new
  changes-at k here ask reply new on asks told held = record {
    here = λ i at same. ap (λ (h : Hop). hold_at request.chan h (own ++ e ∷ [])) (same_Some at.hop here.hop (sym at.stands ∙ ap (slice_get request.route) same ∙ here.stands))
        ∙ hold-here request.chan here.hop own e on ∙ (λ j. hold_with (channel_number request.chan) (now k here) (asks j) (told j)) ∙ held;
    elsewhere = λ i at other. hold-elsewhere request.chan at.hop own e (λ same. other (index-apart request.route i k at.hop here.hop sound.route at.stands here.stands (sym same ∙ on)));
  }

  -- a reply that is no offer leaves the offers
  plain-rows : is_offer e.reply ≡ false → RouteGoes Free Holds request (HopOf request) later replies e.reply → SetupGoes request own replies e
  plain-rows plain goes = record { expected = goes.expected; rows = record { stands = goes.stands; levels = subst (AreLevels request.route) (sym (offers-other replies e.reply plain)) rows.levels } }

  -- hop k gives its reservation back
  gives-back : (k : ℕ) (deny : Denial) → progress_of request replies ≡ undoing (suc k) deny → AskedAt request.route k (λ hop. Deny request.chan) e.link e.ask → SetupGoes request own replies e
  unfolding reply_at
  gives-back k deny is asked =
      let here : HopOf request k = record { hop = asked.hop; stands = asked.stands } in
      let on : link_number e.link ≡ link_of asked.hop = ap link_number asked.at in
      let a = answers-at asked.hop on in
      let tent = back-tent Free Holds request (HopOf request) now later replies e.reply rows.stands k deny is here in
      let held = subst (λ h. IsHeld h (held_by request.chan a.scan.rows)) tent.is a.held in
      let reply : e.reply ≡ Is.Denied = a.reply_is ∙ ap (reply_at link a.clock a.scan) asked.is ∙ ap deny_reply held.0 ∙ deny-tentative tent.terms tent.phase in
      plain-rows (ap is_offer reply) (back-goes Free Holds request (HopOf request) now later replies e.reply rows.stands k deny is reply
      (changes-at k here (Deny request.chan) Is.Denied Free on asked.is reply ((λ j. hold_with (channel_number request.chan) (tent.is j) (Deny request.chan) Is.Denied) ∙ on-own request.chan (denied (Holds tent.terms) Is.Denied) (Holds tent.terms))))

  -- hop k is relaxed to the level that it is allotted
  is-relaxed : (k : ℕ) (levels : List ℕ) → k < length (offers_in replies) → AreWithinReach request.delay request.route (offers_in replies) levels → progress_of request replies ≡ relaxing request.route (suc k) levels → AskedAt request.route k (λ hop. relax_at request levels k) e.link e.ask → SetupGoes request own replies e
  unfolding reply_at
  is-relaxed k levels less within is asked =
      let here : HopOf request k = record { hop = asked.hop; stands = asked.stands } in
      let on : link_number e.link ≡ link_of asked.hop = ap link_number asked.at in
      let a = answers-at asked.hop on in
      let tent = forth-tent Free Holds request (HopOf request) now later replies e.reply rows.stands k levels is here in
      let held = subst (λ h. IsHeld h (held_by request.chan a.scan.rows)) tent.is a.held in
      let reply : e.reply ≡ Is.Relaxed a.clock =
      a.reply_is ∙ ap (reply_at link a.clock a.scan) asked.is
      ∙ ap (relax_reply a.clock (level_of (get_or levels k 0)) (bound_given request.route levels k)) held.0
      ∙ relax-told Holds request (offers_in replies) levels k asked.hop (now k here) sound.bounds within asked.stands less tent a.clock in
      let new : Hold = Holds (committed (level_of (get_or levels k 0)) (bound_given request.route levels k) tent.terms) in
      plain-rows (ap is_offer reply) (forth-goes Free Holds request (HopOf request) now later replies e.reply rows.stands k levels a.clock asked.hop (now k here) sound.bounds within asked.stands less is tent reply
      (changes-at k here (relax_at request levels k) (Is.Relaxed a.clock) new on asked.is reply ((λ j. hold_with (channel_number request.chan) (tent.is j) (relax_at request levels k) (Is.Relaxed a.clock)) ∙ on-own request.chan new (Holds tent.terms))))

  -- the next hop reserves
  abbrev n : ℕ
  n = length (offers_in replies)

  abbrev ask : Ask
  ask = reserve_of request (offers_in replies) (reach_after 0 request.route replies)

  is-reserved : length (offers_in replies) < length request.route → after_offers replies ≡ [] → progress_of request replies ≡ Reserving (offers_in replies) (reach_after 0 request.route replies) → AskedAt request.route n (λ hop. ask) e.link e.ask → SetupGoes request own replies e
  unfolding reply_at MayAnswer
  is-reserved fewer alone is asked = by-reply e.reply refl (subst (λ bs. IsReserved bs request.delay e.reply) (sym (bounds-at n here on)) reserved-so) where
    here : HopOf request n
    here = record { hop = asked.hop; stands = asked.stands }

    on : link_number e.link ≡ link_of here.hop
    on = ap link_number asked.at

    free : now n here ≡ Free
    free = way-free Free Holds request (HopOf request) now later replies e.reply rows.stands alone is here

    reserved-so : IsReserved link.shape.bounds request.delay e.reply
    reserved-so =
        let a = answers-at here.hop on in
        let none = subst (λ h. IsHeld h (held_by request.chan a.scan.rows)) free a.held in
        reserve-reply link _ request.chan request.contract request.delay (reach_after 0 request.route replies) e.reply none (a.reply_is ∙ ap (reply_at link a.clock a.scan) asked.is) (subst (λ x. MayAnswer link.shape a.clock a.scan x e.reply) asked.is a.may)

    -- what the hop holds after its reply
    held-then : (reply : Reply) → hold_with (channel_number request.chan) (now n here) ask reply ≡ reserved Free (offer_of request replies) reply
    held-then reply = (λ j. hold_with (channel_number request.chan) (free j) ask reply) ∙ on-own request.chan (reserved Free (offer_of request replies) reply) Free

    by-reply : (r : Reply) → e.reply ≡ r → IsReserved here.hop.bounds request.delay r → SetupGoes request own replies e
    by-reply (Is.Offer level reach) told is_so =
        let goes =
        offer-goes Free Holds request (HopOf request) now later replies e.reply rows.stands alone is level reach here.hop here.stands is_so told (λ i at. slice_get_within request.route i at.hop at.stands) fewer
        (changes-at n here ask (Is.Offer level reach) (Holds (offer_of request replies level reach)) on asked.is told (held-then (Is.Offer level reach))) in
        let offers : offers_in (replies ++ e.reply ∷ []) ≡ offers_in replies ++ level_number level ∷ [] = offers-more replies e.reply alone (ap is_offer told) ∙ ap (λ l. offers_in replies ++ l ∷ []) (ap level_in told) in
        record {
          expected = goes.expected;
          rows = record {
            stands = goes.stands;
            levels = subst (AreLevels request.route) (sym offers) (AreLevels-push request.route (offers_in replies) here.hop (level_number level) here.stands rows.levels (record { least = level.least; most = is_so.1 }));
          };
        }
    by-reply (Is.Refused refusal) told usual =
        plain-rows (ap is_offer told) (refused-goes Free Holds request (HopOf request) now later replies e.reply rows.stands alone is refusal told usual (changes-at n here ask (Is.Refused refusal) Free on asked.is told (held-then (Is.Refused refusal))))
    by-reply _ told is_so = absurd is_so

  -- each reply
  pub setup-goes : next_ask request replies ≡ Some (e.link, e.ask) → SetupGoes request own replies e
  setup-goes asks = by-ask (setup-asks request replies e.link e.ask sound.bounds rows.levels asks) where
    by-ask : SetupAsks request replies e.link e.ask → SetupGoes request own replies e
    by-ask (Reserves fewer alone is asked) = is-reserved fewer alone is asked
    by-ask (GivesBack k deny is asked) = gives-back k deny is asked
    by-ask (Relaxes k levels less within is asked) = is-relaxed k levels less within is asked
