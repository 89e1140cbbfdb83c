-- One reply more: what it makes of the offers at the start of the replies, and of how far a setup has come.
use Rattle.std.proofs.Common.{◌≡◌, ℕ, zero, suc, ◌-◌, ◌<◌, ◌≤◌, true, false, Option, Some, None, List, [], ◌∷◌, ◌++◌, length, inl, inr, ap, subst, sym, refl, ◌∙◌, arith}
use Rattle.std.proofs.lemmas.Bool.{cases_Bool, cases_lt, lt-ltb, le-ltb}
use Rattle.std.proofs.lemmas.List.{length-append}
use Rattle.net_units.specs.LevelBounds.{bound_at}
use Rattle.hop_reservation.specs.Offers.{next_bound, next_levels}
use Rattle.hop_reservation.specs.declared.route.Hop.{Hop}
use Rattle.link_steps.specs.declared.replies.Reply.{Reply}
use Rattle.link_steps.specs.declared.replies.Reply.TheVariants.{Offer, Relaxed, Denied, Planned, Closing, Taken, Ticked, Refused}
use Rattle.relaxation.specs.Allotment.{denial_of, allotted}
use Rattle.relaxation.specs.declared.EndDenial.{EndDenial}
use Rattle.setup_protocol.specs.Requests.{jitter_of}
use Rattle.setup_protocol.specs.Setup.{Reserving, is_offer, level_in, reach_in, offers_in, after_offers, reach_after, undoing, relaxing, on_the_way, after_test, at_destination, progress_of, settled_in, verdict_of, is_expected, refusal_in, answers_reserve, answers_deny, answers_relax}
use Rattle.setup_protocol.specs.State.{after_reserve, advance}
use Rattle.setup_protocol.specs.declared.verdict.Deny.{Deny}
use Rattle.setup_protocol.specs.declared.verdict.Deny.TheVariants.{Hop as AtHop, End}
use Rattle.setup_protocol.specs.declared.request.Request.{Request}

-- ---- a reply that is no offer

pub offers-other : (replies : List Reply) (reply : Reply) → is_offer reply ≡ false → offers_in (replies ++ reply ∷ []) ≡ offers_in replies
unfolding offers_in
offers-other [] reply other = rw other refl
offers-other (first ∷ replies) reply other =
    elim (cases_Bool (is_offer first)) [
      | inl offer ↦ rw offer (ap (λ levels. level_in first ∷ levels) (offers-other replies reply other))
      | inr plain ↦ rw plain refl
    ]

pub after-other : (replies : List Reply) (reply : Reply) → is_offer reply ≡ false → after_offers (replies ++ reply ∷ []) ≡ after_offers replies ++ reply ∷ []
unfolding after_offers
after-other [] reply other = rw other refl
after-other (first ∷ replies) reply other =
    elim (cases_Bool (is_offer first)) [
      | inl offer ↦ rw offer (after-other replies reply other)
      | inr plain ↦ rw plain refl
    ]

-- ---- one offer more, after offers alone

pub offers-more : (replies : List Reply) (reply : Reply) → after_offers replies ≡ [] → is_offer reply ≡ true → offers_in (replies ++ reply ∷ []) ≡ offers_in replies ++ level_in reply ∷ []
unfolding offers_in after_offers
offers-more [] reply none offer = rw offer refl
offers-more (first ∷ replies) reply none offer =
    elim (cases_Bool (is_offer first)) [
      | inl is ↦ rw is (ap (λ levels. level_in first ∷ levels) (offers-more replies reply (rw is at none) offer))
      | inr plain ↦ absurd (let clash : first ∷ replies ≡ [] = rw plain at none in cc)
    ]

pub after-none : (replies : List Reply) (reply : Reply) → after_offers replies ≡ [] → is_offer reply ≡ true → after_offers (replies ++ reply ∷ []) ≡ []
unfolding after_offers
after-none [] reply none offer = rw offer refl
after-none (first ∷ replies) reply none offer =
    elim (cases_Bool (is_offer first)) [
      | inl is ↦ rw is (after-none replies reply (rw is at none) offer)
      | inr plain ↦ absurd (let clash : first ∷ replies ≡ [] = rw plain at none in cc)
    ]

-- the reach is that of the hop that offers
pub reach-more : (before : ℕ) (hops : List Hop) (replies : List Reply) (reply : Reply) → after_offers replies ≡ [] → is_offer reply ≡ true → length (offers_in replies) < length hops
    → reach_after before hops (replies ++ reply ∷ []) ≡ next_bound hops (offers_in replies) (reach_in reply)
unfolding offers_in after_offers reach_after next_bound
reach-more before [] replies reply none offer fits = absurd (omega arith)
reach-more before (hop ∷ hops) [] reply none offer fits = rw offer refl
reach-more before (hop ∷ hops) (first ∷ replies) reply none offer fits =
    elim (cases_Bool (is_offer first)) [
      | inl is ↦ rw is (reach-more (bound_at hop.bounds (reach_in first)) hops replies reply (rw is at none) offer (let less : suc (length (offers_in replies)) < suc (length hops) = rw is at fits in omega arith))
      | inr plain ↦ absurd (let clash : first ∷ replies ≡ [] = rw plain at none in cc)
    ]

-- ---- the replies of a deny and of a relax

denied-plain : (reply : Reply) → answers_deny reply ≡ true → is_offer reply ≡ false
denied-plain (Offer level reach) denied = sym denied
denied-plain (Relaxed clock) denied = refl
denied-plain Denied denied = refl
denied-plain (Planned clock) denied = refl
denied-plain (Closing count cancelled) denied = refl
denied-plain (Taken clock eligible) denied = refl
denied-plain (Ticked clock full sent best_sent best_lost) denied = refl
denied-plain (Refused refusal) denied = refl

relaxed-plain : (reply : Reply) → answers_relax reply ≡ true → is_offer reply ≡ false
relaxed-plain (Offer level reach) relaxed = sym relaxed
relaxed-plain (Relaxed clock) relaxed = refl
relaxed-plain Denied relaxed = refl
relaxed-plain (Planned clock) relaxed = refl
relaxed-plain (Closing count cancelled) relaxed = refl
relaxed-plain (Taken clock eligible) relaxed = refl
relaxed-plain (Ticked clock full sent best_sent best_lost) relaxed = refl
relaxed-plain (Refused refusal) relaxed = refl

-- one hop less is left to give its row back
undoing-less : (request : Request) (total count left : ℕ) (deny : Deny) (reply : Reply) → total - count ≡ left → is_expected request (undoing left deny) reply ≡ true
    → (is_offer reply ≡ false) × (undoing (total - suc count) deny ≡ advance request (undoing left deny) reply)
undoing-less request total count zero deny reply same expected = absurd (let clash : false ≡ true = expected in cc)
undoing-less request total count (suc left) deny reply same expected =
    let less : total - suc count ≡ suc left - 1 = omega (arith, same) in
    (denied-plain reply expected, ap (λ n. undoing n deny) less)

-- or to be relaxed
relaxing-less : (request : Request) (total count left : ℕ) (levels : List ℕ) (reply : Reply) → total - count ≡ left → is_expected request (relaxing request.route left levels) reply ≡ true
    → (is_offer reply ≡ false) × (relaxing request.route (total - suc count) levels ≡ advance request (relaxing request.route left levels) reply)
relaxing-less request total count zero levels reply same expected = absurd (let clash : false ≡ true = expected in cc)
relaxing-less request total count (suc left) levels reply same expected =
    let less : total - suc count ≡ suc left - 1 = omega (arith, same) in
    (relaxed-plain reply expected, ap (λ n. relaxing request.route n levels) less)

-- ---- how far a setup has come

-- on the way, and after the destination's test
pub progress-on_the_way : (request : Request) (replies : List Reply) → length (offers_in replies) < length request.route
    → progress_of request replies ≡ on_the_way (offers_in replies) (reach_after 0 request.route replies) (after_offers replies)
progress-on_the_way request replies fits = rw (lt-ltb (length (offers_in replies)) (length request.route) fits) refl

pub progress-tested : (request : Request) (replies : List Reply) → length request.route ≤ length (offers_in replies)
    → progress_of request replies ≡ at_destination request (offers_in replies) (length (after_offers replies))
progress-tested request replies whole = rw (le-ltb (length (offers_in replies)) (length request.route) whole) refl

one-more : (replies : List Reply) (reply : Reply) → length (replies ++ reply ∷ []) ≡ suc (length replies)
one-more replies reply = omega (arith, length-append replies (reply ∷ []))

module _ (request : Request) (replies : List Reply) where
  -- the reply to a reserve
  reserved-advances : (reply : Reply) → length (offers_in replies) < length request.route → after_offers replies ≡ []
      → answers_reserve (next_levels request.route (offers_in replies)) reply ≡ true → progress_of request (replies ++ reply ∷ []) ≡ after_reserve request (offers_in replies) reply
  reserved-advances (Offer level reach) fits none expected =
      rw (offers-more replies (Offer level reach) none refl)
      (rw (after-none replies (Offer level reach) none refl)
      (rw (reach-more 0 request.route replies (Offer level reach) none refl fits) refl))
  reserved-advances (Refused refusal) fits none expected =
      let other = offers-other replies (Refused refusal) refl in
      let after : after_offers (replies ++ Refused refusal ∷ []) ≡ Refused refusal ∷ [] = after-other replies (Refused refusal) refl ∙ ap (λ rest. rest ++ Refused refusal ∷ []) none in
      let whole : length (offers_in replies) - 0 ≡ length (offers_in replies) = omega arith in
      progress-on_the_way request (replies ++ Refused refusal ∷ []) (omega (arith, fits, ap length other))
      ∙ rw after (rw other (ap (λ n. undoing n (AtHop (suc (length (offers_in replies))) refusal)) whole))
  reserved-advances (Relaxed clock) fits none expected = absurd (let clash : false ≡ true = expected in cc)
  reserved-advances Denied fits none expected = absurd (let clash : false ≡ true = expected in cc)
  reserved-advances (Planned clock) fits none expected = absurd (let clash : false ≡ true = expected in cc)
  reserved-advances (Closing count cancelled) fits none expected = absurd (let clash : false ≡ true = expected in cc)
  reserved-advances (Taken clock eligible) fits none expected = absurd (let clash : false ≡ true = expected in cc)
  reserved-advances (Ticked clock full sent best_sent best_lost) fits none expected = absurd (let clash : false ≡ true = expected in cc)

  -- a reply on the way, with these replies after the offers
  way-advances : (reply : Reply) (rest : List Reply) → length (offers_in replies) < length request.route → after_offers replies ≡ rest
      → is_expected request (on_the_way (offers_in replies) (reach_after 0 request.route replies) rest) reply ≡ true
      → progress_of request (replies ++ reply ∷ []) ≡ advance request (on_the_way (offers_in replies) (reach_after 0 request.route replies) rest) reply
  way-advances reply [] fits after expected = reserved-advances reply fits after expected
  way-advances reply (first ∷ denied) fits after expected =
      let deny = AtHop (suc (length (offers_in replies))) (refusal_in first) in
      let less = undoing-less request (length (offers_in replies)) (length denied) (length (offers_in replies) - length denied) deny reply refl expected in
      let other = offers-other replies reply less.0 in
      let more : after_offers (replies ++ reply ∷ []) ≡ first ∷ denied ++ reply ∷ [] = after-other replies reply less.0 ∙ ap (λ rest. rest ++ reply ∷ []) after in
      progress-on_the_way request (replies ++ reply ∷ []) (omega (arith, fits, ap length other))
      ∙ rw more (rw other (ap (λ n. undoing (length (offers_in replies) - n) deny) (one-more denied reply))) ∙ less.1

  -- after the test, one reply more that is no offer
  tested-more : (reply : Reply) (denial : Option EndDenial) → length request.route ≤ length (offers_in replies)
      → denial_of request.route (offers_in replies) request.delay (jitter_of request.control) ≡ denial → is_offer reply ≡ false
      → progress_of request (replies ++ reply ∷ []) ≡ after_test request (offers_in replies) (suc (length (after_offers replies))) denial
  tested-more reply denial whole is plain =
      let other = offers-other replies reply plain in
      let more : length (after_offers (replies ++ reply ∷ [])) ≡ suc (length (after_offers replies)) = ap length (after-other replies reply plain) ∙ one-more (after_offers replies) reply in
      progress-tested request (replies ++ reply ∷ []) (omega (arith, whole, ap length other))
      ∙ rw more (rw other (ap (after_test request (offers_in replies) (suc (length (after_offers replies)))) is))

  -- a reply after the test, whose result this is
  test-advances : (reply : Reply) (denial : Option EndDenial) → length request.route ≤ length (offers_in replies)
      → denial_of request.route (offers_in replies) request.delay (jitter_of request.control) ≡ denial
      → is_expected request (after_test request (offers_in replies) (length (after_offers replies)) denial) reply ≡ true
      → progress_of request (replies ++ reply ∷ []) ≡ advance request (after_test request (offers_in replies) (length (after_offers replies)) denial) reply
  test-advances reply (Some denial) whole is expected =
      let less = undoing-less request (length request.route) (length (after_offers replies)) (length request.route - length (after_offers replies)) (End denial) reply refl expected in
      tested-more reply (Some denial) whole is less.0 ∙ less.1
  test-advances reply None whole is expected =
      let levels = allotted request.route (offers_in replies) request.delay (jitter_of request.control) in
      let less = relaxing-less request (length request.route) (length (after_offers replies)) (length request.route - length (after_offers replies)) levels reply refl expected in
      tested-more reply None whole is less.0 ∙ less.1

  -- each reply to what is asked goes on from where the setup has come
  pub progress-advances : (reply : Reply) → is_expected request (progress_of request replies) reply ≡ true
      → progress_of request (replies ++ reply ∷ []) ≡ advance request (progress_of request replies) reply
  progress-advances reply expected =
      elim (cases_lt (length (offers_in replies)) (length request.route)) [
        | inl fits ↦
            let now = progress-on_the_way request replies fits in
            way-advances reply (after_offers replies) fits refl (subst (λ p. is_expected request p reply ≡ true) now expected) ∙ ap (λ p. advance request p reply) (sym now)
        | inr whole ↦
            let now = progress-tested request replies whole in
            test-advances reply _ whole refl (subst (λ p. is_expected request p reply ≡ true) now expected) ∙ ap (λ p. advance request p reply) (sym now)
      ]

-- without a reply the first hop is to reserve
pub progress-none : (request : Request) → 1 ≤ length request.route → progress_of request [] ≡ Reserving [] 0
unfolding offers_in after_offers reach_after
progress-none request some = rw (lt-ltb 0 (length request.route) (omega (arith, some))) refl

-- so it hasn't settled yet
pub none-settled : (request : Request) → 1 ≤ length request.route → verdict_of request [] ≡ None
none-settled request some = ap settled_in (progress-none request some)
