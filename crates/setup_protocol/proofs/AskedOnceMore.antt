-- Each hop that has offered is asked once more before the request settles: the replies up to that ask are the offers and as
-- many after them as there are hops after this one.
use Rattle.std.proofs.Common.{◌≡◌, ℕ, zero, suc, ◌+◌, ◌-◌, ◌<◌, ◌≤◌, Option, Some, None, List, [], ◌∷◌, ◌++◌, length, take, inl, inr, ap, subst, sym, refl, ◌∙◌, arith}
use Rattle.std.specs.List.{slice_get}
use Rattle.std.proofs.lemmas.Bool.{cases_Bool, cases_lt}
use Rattle.std.proofs.lemmas.List.{length-take-le}
use Rattle.hop_reservation.specs.Offers.{delay_over}
use Rattle.hop_reservation.specs.declared.route.Hop.{Hop}
use Rattle.hop_reservation.proofs.OneMoreOffer.{levels-fit}
use Rattle.link_steps.specs.declared.asks.Ask.{Ask}
use Rattle.link_steps.specs.declared.asks.Ask.TheVariants.{Deny as GiveBack}
use Rattle.link_steps.specs.declared.replies.Reply.{Reply}
use Rattle.relaxation.specs.Allotment.{denial_of, allotted}
use Rattle.relaxation.specs.declared.EndDenial.{EndDenial}
use Rattle.setup_protocol.specs.Requests.{jitter_of}
use Rattle.setup_protocol.specs.WayBack.{back_of, IsAskedBack, EveryHopIsAskedBack}
use Rattle.setup_protocol.specs.Setup.{Outcome, Accepts, Denies, Progress, is_offer, level_in, offers_in, after_offers, reach_after, undoing, relaxing, on_the_way, after_test, settled_in, asked, asked_of, relax_of, progress_of, refusal_in}
use Rattle.setup_protocol.specs.declared.request.Request.{Request}
use Rattle.setup_protocol.specs.declared.verdict.Deny.{Deny}
use Rattle.setup_protocol.specs.declared.verdict.Deny.TheVariants.{Hop as AtHop}
use Rattle.setup_protocol.proofs.SetupAdvances.{progress-on_the_way, progress-tested}

-- ---- a prefix of the replies that has all offers

take-none : {X : Type 0} (count : ℕ) → take {A = X} count [] ≡ []
take-none zero = refl
take-none (suc count) = refl

-- as many replies as there are offers, or more, have these offers
offers-front : (replies : List Reply) (count : ℕ) → length (offers_in replies) ≤ count → offers_in (take count replies) ≡ offers_in replies
unfolding offers_in
offers-front [] count most = ap offers_in (take-none count)
offers-front (first ∷ replies) zero most =
    elim (cases_Bool (is_offer first)) [
      | inl offer ↦ absurd (let none : suc (length (offers_in replies)) ≤ 0 = rw offer at most in omega (arith, none))
      | inr plain ↦ rw plain refl
    ]
offers-front (first ∷ replies) (suc count) most =
    elim (cases_Bool (is_offer first)) [
      | inl offer ↦ (let more : suc (length (offers_in replies)) ≤ suc count = rw offer at most in rw offer (ap (λ levels. level_in first ∷ levels) (offers-front replies count (omega (arith, more)))))
      | inr plain ↦ rw plain refl
    ]

-- and so many after them
after-front : (replies : List Reply) (count after : ℕ) → count ≡ length (offers_in replies) + after → after_offers (take count replies) ≡ take after (after_offers replies)
unfolding offers_in after_offers
after-front [] count after is = ap after_offers (take-none count) ∙ sym (take-none after)
after-front (first ∷ replies) zero after is =
    elim (cases_Bool (is_offer first)) [
      | inl offer ↦ absurd (let none : 0 ≡ suc (length (offers_in replies)) + after = rw offer at is in omega (arith, none))
      | inr plain ↦ (let same : 0 ≡ 0 + after = rw plain at is in let none : after ≡ 0 = omega (arith, same) in rw plain (rw none refl))
    ]
after-front (first ∷ replies) (suc count) after is =
    elim (cases_Bool (is_offer first)) [
      | inl offer ↦ (let same : suc count ≡ suc (length (offers_in replies)) + after = rw offer at is in rw offer (after-front replies count after (omega (arith, same))))
      | inr plain ↦ (let same : suc count ≡ 0 + after = rw plain at is in let all : after ≡ suc count = omega (arith, same) in rw plain (rw all refl))
    ]

-- the replies are the offers and those after them
pub count-all : (replies : List Reply) → length replies ≡ length (offers_in replies) + length (after_offers replies)
unfolding offers_in after_offers
count-all [] = refl
count-all (first ∷ replies) =
    elim (cases_Bool (is_offer first)) [
      | inl offer ↦ (let rest = count-all replies in rw offer (omega (arith, rest)))
      | inr plain ↦ rw plain (omega arith)
    ]

-- ---- the ask after a prefix

-- a list at one of its places
record IsSplit {X : Type 0} (xs : List X) (place : ℕ) : Type 0 where
  here : X
  after : List X
  same : xs ≡ take place xs ++ here ∷ after

split-at : {X : Type 0} (xs : List X) (place : ℕ) → place < length xs → IsSplit xs place
split-at [] place less = absurd (omega arith)
split-at (x ∷ xs) zero less = record { here = x; after = xs; same = refl }
split-at (x ∷ xs) (suc place) less =
    let rest = split-at xs place (omega arith) in
    record { here = rest.here; after = rest.after; same = ap (λ ys. x ∷ ys) rest.same }

-- where the prefix is followed by a reply, and its progress asks the hop so, the hop is asked back
asked-back : (request : Request) (replies : List Reply) (place : ℕ) (progress : Progress) (hop : Hop) (ask : Ask) → place < length replies → progress_of request (take place replies) ≡ progress
    → asked request progress ≡ Some (hop.link, ask) → IsAskedBack request replies hop ask
asked-back request replies place progress hop ask less is asks =
    let split = split-at replies place less in
    record {
      before = take place replies;
      reply = split.here;
      after = split.after;
      split = split.same;
      is_asked = ap (asked request) is ∙ asks;
    }

-- an ask of the hop that is found
found-asked : (found : Option Hop) (hop : Hop) (ask : Ask) → found ≡ Some hop → asked_of found (λ h. ask) ≡ Some (hop.link, ask)
found-asked found hop ask is = ap (λ f. asked_of f (λ h. ask)) is

-- ---- what has settled

-- no hop was left to give its row back, and the outcome is that denial
record IsUndone (left : ℕ) (deny : Deny) (outcome : Outcome) : Type 0 where
  none_left : left ≡ 0
  denies : Denies deny ≡ outcome

undone-is : (left : ℕ) (deny : Deny) (outcome : Outcome) → settled_in (undoing left deny) ≡ Some outcome → IsUndone left deny outcome
undone-is zero deny outcome settled = record { none_left = refl; denies = (let same : Some (Denies deny) ≡ Some outcome = settled in cc) }
undone-is (suc left) deny outcome settled = absurd (let clash : None ≡ Some outcome = settled in cc)

-- or to relax, and the outcome has those levels
record IsRelaxed (left : ℕ) (levels : List ℕ) (outcome : Outcome) : Type 0 where
  none_left : left ≡ 0
  delay : ℕ
  accepts : Accepts levels delay ≡ outcome

relaxed-is : (hops : List Hop) (left : ℕ) (levels : List ℕ) (outcome : Outcome) → settled_in (relaxing hops left levels) ≡ Some outcome → IsRelaxed left levels outcome
relaxed-is hops zero levels outcome settled = record { none_left = refl; delay = delay_over hops levels; accepts = (let same : Some (Accepts levels (delay_over hops levels)) ≡ Some outcome = settled in cc) }
relaxed-is hops (suc left) levels outcome settled = absurd (let clash : None ≡ Some outcome = settled in cc)

-- ---- a request that was refused on the way

-- the hop at this place, with `last` hops after it that have offered, is asked to give its row back
undo-asked : (request : Request) (left index : ℕ) (deny : Deny) (hop : Hop) → left ≡ suc index → slice_get request.route index ≡ Some hop → asked request (undoing left deny) ≡ Some (hop.link, GiveBack request.chan)
undo-asked request zero index deny hop is found = absurd (omega (arith, is))
undo-asked request (suc left) index deny hop is found =
    let same : suc left - 1 ≡ index = omega (arith, is) in
    found-asked (slice_get request.route (suc left - 1)) hop (GiveBack request.chan) (ap (slice_get request.route) same ∙ found)

way-back : (request : Request) (replies rest : List Reply) (outcome : Outcome) (index : ℕ) (hop : Hop) → length (offers_in replies) < length request.route → after_offers replies ≡ rest
    → settled_in (on_the_way (offers_in replies) (reach_after 0 request.route replies) rest) ≡ Some outcome
    → index < length (offers_in replies) → slice_get request.route index ≡ Some hop → IsAskedBack request replies hop (back_of request index outcome)
way-back request replies [] outcome index hop fits after settled less found = absurd (let clash : None ≡ Some outcome = settled in cc)
way-back request replies (first ∷ denied) outcome index hop fits after settled less found =
    let count = length (offers_in replies) in
    let deny = AtHop (suc count) (refusal_in first) in
    let undone = undone-is (count - length denied) deny outcome settled in
    let made = count - suc index in
    let front = take (count + suc made) replies in
    let offers : offers_in front ≡ offers_in replies = offers-front replies (count + suc made) (omega arith) in
    let back : after_offers front ≡ first ∷ take made denied = after-front replies (count + suc made) (suc made) refl ∙ ap (take (suc made)) after in
    let same : length (take made denied) ≡ made = length-take-le made denied (omega (arith, undone.none_left)) in
    let progress : progress_of request front ≡ undoing (count - made) deny =
    progress-on_the_way request front (omega (arith, fits, ap length offers))
    ∙ ap (on_the_way (offers_in front) (reach_after 0 request.route front)) back
    ∙ ap (λ os. undoing (length os - length (take made denied)) (AtHop (suc (length os)) (refusal_in first))) offers
    ∙ ap (λ n. undoing (count - n) deny) same in
    let within : count + suc made < length replies = omega (arith, count-all replies, ap length after, undone.none_left, less) in
    subst (λ o. IsAskedBack request replies hop (back_of request index o)) undone.denies
    (asked-back request replies (count + suc made) (undoing (count - made) deny) hop (GiveBack request.chan) within progress
    (undo-asked request (count - made) index deny hop (omega (arith, less)) found))

-- ---- a request that was tested

relax-asked : (request : Request) (left index : ℕ) (levels : List ℕ) (hop : Hop) → left ≡ suc index → slice_get request.route index ≡ Some hop
    → asked request (relaxing request.route left levels) ≡ Some (hop.link, relax_of request levels (suc index))
relax-asked request zero index levels hop is found = absurd (omega (arith, is))
relax-asked request (suc left) index levels hop is found =
    let same : suc left - 1 ≡ index = omega (arith, is) in
    ap (λ f. asked_of f (λ h. relax_of request levels (suc left))) (ap (slice_get request.route) same ∙ found) ∙ ap (λ n. Some (hop.link, relax_of request levels n)) is

-- the progress after a prefix of a tested request
front-tested : (request : Request) (replies : List Reply) (made : ℕ) (denial : Option EndDenial) → length request.route ≤ length (offers_in replies) → made ≤ length (after_offers replies)
    → denial_of request.route (offers_in replies) request.delay (jitter_of request.control) ≡ denial
    → progress_of request (take (length (offers_in replies) + made) replies) ≡ after_test request (offers_in replies) made denial
front-tested request replies made denial whole most tested =
    let front = take (length (offers_in replies) + made) replies in
    let offers : offers_in front ≡ offers_in replies = offers-front replies (length (offers_in replies) + made) (omega arith) in
    let count : length (after_offers front) ≡ made = ap length (after-front replies (length (offers_in replies) + made) made refl) ∙ length-take-le made (after_offers replies) most in
    progress-tested request front (omega (arith, whole, ap length offers))
    ∙ ap (λ n. after_test request (offers_in front) n (denial_of request.route (offers_in front) request.delay (jitter_of request.control))) count
    ∙ ap (λ os. after_test request os made (denial_of request.route os request.delay (jitter_of request.control))) offers
    ∙ ap (after_test request (offers_in replies) made) tested

test-back : (request : Request) (replies : List Reply) (denial : Option EndDenial) (outcome : Outcome) (index : ℕ) (hop : Hop) → length request.route ≡ length (offers_in replies)
    → denial_of request.route (offers_in replies) request.delay (jitter_of request.control) ≡ denial
    → settled_in (after_test request (offers_in replies) (length (after_offers replies)) denial) ≡ Some outcome
    → index < length (offers_in replies) → slice_get request.route index ≡ Some hop → IsAskedBack request replies hop (back_of request index outcome)
test-back request replies (Some denial) outcome index hop whole tested settled less found =
    let undone = undone-is (length request.route - length (after_offers replies)) _ outcome settled in
    let made = length request.route - suc index in
    let progress = front-tested request replies made (Some denial) (omega (arith, whole)) (omega (arith, undone.none_left, whole, less)) tested in
    let within : length (offers_in replies) + made < length replies = omega (arith, count-all replies, undone.none_left, whole, less) in
    subst (λ o. IsAskedBack request replies hop (back_of request index o)) undone.denies
    (asked-back request replies (length (offers_in replies) + made) _ hop (GiveBack request.chan) within progress
    (undo-asked request (length request.route - made) index _ hop (omega (arith, whole, less)) found))
test-back request replies None outcome index hop whole tested settled less found =
    let levels = allotted request.route (offers_in replies) request.delay (jitter_of request.control) in
    let relaxed = relaxed-is request.route (length request.route - length (after_offers replies)) levels outcome settled in
    let made = length request.route - suc index in
    let progress = front-tested request replies made None (omega (arith, whole)) (omega (arith, relaxed.none_left, whole, less)) tested in
    let within : length (offers_in replies) + made < length replies = omega (arith, count-all replies, relaxed.none_left, whole, less) in
    subst (λ o. IsAskedBack request replies hop (back_of request index o)) relaxed.accepts
    (asked-back request replies (length (offers_in replies) + made) _ hop (relax_of request levels (suc index)) within progress
    (relax-asked request (length request.route - made) index levels hop (omega (arith, whole, less)) found))

pub hops-asked_back : EveryHopIsAskedBack
hops-asked_back request replies outcome index hop are settled less found =
    elim (cases_lt (length (offers_in replies)) (length request.route)) [
      | inl fits ↦ way-back request replies (after_offers replies) outcome index hop fits refl (subst (λ p. settled_in p ≡ Some outcome) (progress-on_the_way request replies fits) settled) less found
      | inr whole ↦ test-back request replies _ outcome index hop (omega (arith, whole, levels-fit request.route (offers_in replies) are)) refl (subst (λ p. settled_in p ≡ Some outcome) (progress-tested request replies whole) settled) less found
    ]
