-- What a settled request comes to.
use Rattle.std.proofs.Common.{◌≡◌, ℕ, zero, suc, ◌-◌, ◌<◌, ◌≤◌, true, false, Option, Some, None, List, [], ◌∷◌, length, drop, inl, inr, ap, subst, sym, refl, ◌∙◌, arith}
use Rattle.std.proofs.lemmas.Bool.{cases_lt, lt-ltb, le-ltb}
use Rattle.hop_reservation.specs.Offers.{delay_over}
use Rattle.hop_reservation.specs.declared.route.Hop.{Hop}
use Rattle.hop_reservation.proofs.OneMoreOffer.{levels-fit}
use Rattle.link_steps.specs.declared.replies.Reply.{Reply}
use Rattle.relaxation.specs.Allotment.{denial_of, allotted}
use Rattle.relaxation.specs.declared.EndDenial.{EndDenial}
use Rattle.relaxation.proofs.RouteAllotment.{allotted-fit}
use Rattle.setup_protocol.specs.Requests.{jitter_of}
use Rattle.setup_protocol.specs.Laws.{is_accepted, AcceptedWhereAllPass, KeepsRequest, AcceptedKeepTheirBounds, EveryOfferIsAskedBack}
use Rattle.setup_protocol.specs.Setup.{Outcome, Accepts, Denies, offers_in, after_offers, reach_after, undoing, relaxing, on_the_way, after_test, settled_in, progress_of}
use Rattle.setup_protocol.specs.declared.request.Request.{Request}
use Rattle.setup_protocol.specs.declared.verdict.Deny.{Deny}
use Rattle.setup_protocol.proofs.SetupAdvances.{progress-on_the_way, progress-tested}
use Rattle.setup_protocol.proofs.RouteLevels.{reach-have}

-- giving rows back ends in a denial
undone-denies : (left : ℕ) (deny : Deny) (outcome : Outcome) → settled_in (undoing left deny) ≡ Some outcome → is_accepted outcome ≡ false
undone-denies zero deny outcome settled = (let same : Denies deny ≡ outcome = cc in ap is_accepted (sym same))
undone-denies (suc left) deny outcome settled = absurd (let clash : None ≡ Some outcome = settled in cc)

-- so a request that settles on the way is denied
way-denies : (offers : List ℕ) (reach : ℕ) (rest : List Reply) (outcome : Outcome) → settled_in (on_the_way offers reach rest) ≡ Some outcome → is_accepted outcome ≡ false
way-denies offers reach [] outcome settled = absurd (let clash : None ≡ Some outcome = settled in cc)
way-denies offers reach (first ∷ denied) outcome settled = undone-denies (length offers - length denied) _ outcome settled

-- relaxing ends in an acceptance at these levels
relaxed-accepts : (request : Request) (left : ℕ) (levels : List ℕ) (outcome : Outcome) → settled_in (relaxing request.route left levels) ≡ Some outcome → Accepts levels (delay_over request.route levels) ≡ outcome
relaxed-accepts request zero levels outcome settled = cc
relaxed-accepts request (suc left) levels outcome settled = absurd (let clash : None ≡ Some outcome = settled in cc)

-- after the test: denied where it denies, and else accepted
record IsTested (request : Request) (replies : List Reply) (outcome : Outcome) : Type 0 where
  accepted : is_accepted outcome ≡ true → denial_of request.route (offers_in replies) request.delay (jitter_of request.control) ≡ None
  passed : denial_of request.route (offers_in replies) request.delay (jitter_of request.control) ≡ None
      → Accepts (allotted request.route (offers_in replies) request.delay (jitter_of request.control)) (delay_over request.route (allotted request.route (offers_in replies) request.delay (jitter_of request.control))) ≡ outcome

tested : (request : Request) (replies : List Reply) (outcome : Outcome) (denial : Option EndDenial) → denial_of request.route (offers_in replies) request.delay (jitter_of request.control) ≡ denial
    → settled_in (after_test request (offers_in replies) (length (after_offers replies)) denial) ≡ Some outcome → IsTested request replies outcome
tested request replies outcome (Some denial) is settled =
    let denied = undone-denies (length request.route - length (after_offers replies)) _ outcome settled in
    record {
      accepted = λ accepted. absurd (let clash : true ≡ false = sym accepted ∙ denied in cc);
      passed = λ none. absurd (let clash : Some denial ≡ None = sym is ∙ none in cc);
    }
tested request replies outcome None is settled = record {
  accepted = λ accepted. is;
  passed = λ none. relaxed-accepts request (length request.route - length (after_offers replies)) (allotted request.route (offers_in replies) request.delay (jitter_of request.control)) outcome settled;
}

-- where all hops have offered
settled-tested : (request : Request) (replies : List Reply) (outcome : Outcome) → length request.route ≤ length (offers_in replies) → settled_in (progress_of request replies) ≡ Some outcome → IsTested request replies outcome
settled-tested request replies outcome whole settled =
    tested request replies outcome _ refl (subst (λ p. settled_in p ≡ Some outcome) (progress-tested request replies whole) settled)

-- where one hasn't
settled-denied : (request : Request) (replies : List Reply) (outcome : Outcome) → length (offers_in replies) < length request.route → settled_in (progress_of request replies) ≡ Some outcome → is_accepted outcome ≡ false
settled-denied request replies outcome fits settled =
    way-denies (offers_in replies) (reach_after 0 request.route replies) (after_offers replies) outcome (subst (λ p. settled_in p ≡ Some outcome) (progress-on_the_way request replies fits) settled)

pub accepted-passed : AcceptedWhereAllPass
accepted-passed request replies outcome settled =
    elim (cases_lt (length (offers_in replies)) (length request.route)) [
      | inl fits ↦
          let denied = settled-denied request replies outcome fits settled in
          (λ accepted. absurd (let clash : true ≡ false = sym accepted ∙ denied in cc), λ passed. absurd (omega (arith, fits, passed.all_offer)))
      | inr whole ↦
          let is = settled-tested request replies outcome whole settled in
          (λ accepted. record { all_offer = whole; no_denial = is.accepted accepted }, λ passed. ap is_accepted (sym (is.passed passed.no_denial)))
    ]

-- an outcome, where it is an acceptance, keeps what was asked for
abbrev Keeps : Request → Outcome → Type 0
Keeps request (Accepts levels delay) = KeepsRequest request levels delay
Keeps request (Denies deny) = Unit {0}

pub accepted-keep : AcceptedKeepTheirBounds
accepted-keep request replies levels delay bounds are settled =
    let passed = (accepted-passed request replies (Accepts levels delay) settled).0 refl in
    let is = (settled-tested request replies (Accepts levels delay) passed.all_offer settled).passed passed.no_denial in
    let own = allotted request.route (offers_in replies) request.delay (jitter_of request.control) in
    let fit = allotted-fit request.route (offers_in replies) request.delay (jitter_of request.control) bounds are passed.no_denial in
    let have = reach-have request.delay request.route (offers_in replies) own fit.0 in
    let whole : length own ≡ length request.route = omega (arith, have.1, passed.all_offer, levels-fit request.route (offers_in replies) are) in
    let kept : KeepsRequest request own (delay_over request.route own) = record {
      have_levels = record { are_levels = have.0; whole = whole };
      in_time = fit.1.in_time;
      in_jitter = fit.1.in_jitter;
    } in
    subst (Keeps request) is kept

-- ---- each hop that has offered is asked back

-- nothing is left to undo, or to relax
undone-all : (left : ℕ) (deny : Deny) (outcome : Outcome) → settled_in (undoing left deny) ≡ Some outcome → left ≡ 0
undone-all zero deny outcome settled = refl
undone-all (suc left) deny outcome settled = absurd (let clash : None ≡ Some outcome = settled in cc)

relaxed-all : (hops : List Hop) (left : ℕ) (levels : List ℕ) (outcome : Outcome) → settled_in (relaxing hops left levels) ≡ Some outcome → left ≡ 0
relaxed-all hops zero levels outcome settled = refl
relaxed-all hops (suc left) levels outcome settled = absurd (let clash : None ≡ Some outcome = settled in cc)

way-asked : (offers : List ℕ) (reach : ℕ) (rest : List Reply) (outcome : Outcome) → settled_in (on_the_way offers reach rest) ≡ Some outcome → length offers ≤ length (drop 1 rest)
way-asked offers reach [] outcome settled = absurd (let clash : None ≡ Some outcome = settled in cc)
way-asked offers reach (first ∷ denied) outcome settled = (let none = undone-all (length offers - length denied) _ outcome settled in omega (arith, none))

test-asked : (request : Request) (offers : List ℕ) (count : ℕ) (denial : Option EndDenial) (outcome : Outcome) → settled_in (after_test request offers count denial) ≡ Some outcome → length request.route ≤ count
test-asked request offers count (Some denial) outcome settled = (let none = undone-all (length request.route - count) _ outcome settled in omega (arith, none))
test-asked request offers count None outcome settled = (let none = relaxed-all request.route (length request.route - count) _ outcome settled in omega (arith, none))

pub offers-asked_back : EveryOfferIsAskedBack
offers-asked_back request replies outcome are settled =
    elim (cases_lt (length (offers_in replies)) (length request.route)) [
      | inl fits ↦
          rw (lt-ltb (length (offers_in replies)) (length request.route) fits)
          (way-asked (offers_in replies) (reach_after 0 request.route replies) (after_offers replies) outcome (subst (λ p. settled_in p ≡ Some outcome) (progress-on_the_way request replies fits) settled))
      | inr whole ↦
          let count = test-asked request (offers_in replies) (length (after_offers replies)) _ outcome (subst (λ p. settled_in p ≡ Some outcome) (progress-tested request replies whole) settled) in
          rw (le-ltb (length (offers_in replies)) (length request.route) whole) (omega (arith, count, levels-fit request.route (offers_in replies) are))
    ]
