-- A channel is established in one round trip along its route (after the Tenet suite, Banerjea, Ferrari et al. 1996).
-- Forward, each hop in turn is asked to reserve, and given the reach of the hop before. At the first refusal the hops
-- before it are asked to give their rows back, from the last of them to the first, and the request is denied with that hop
-- and refusal. Where all hops have offered, the destination tests the offers. Where it denies, every hop is asked to give
-- its row back, from the last to the first; else each is asked to relax to the level that it is allotted, from the last to
-- the first, so that the first hop is committed last. What is asked next follows from the replies so far: the offers at
-- their front, and how many replies came after these.
use Rattle.std.specs.Prelude.{ℕ, zero, suc, ◌-◌, Bool, true, false, nat_lt, nat_le, nat_eq, ◌&&◌, if◌then◌else◌, Option, Some, None, option_map, List, [], ◌∷◌, length, slice_index}
use Rattle.std.specs.List.{slice_get}
use Rattle.net_units.specs.Numbers.{level_number}
use Rattle.net_units.specs.LevelBounds.{bound_at}
use Rattle.net_units.specs.declared.numbers.LinkNo.{LinkNo}
use Rattle.hop_reservation.specs.Offers.{delay_over, next_levels}
use Rattle.hop_reservation.specs.declared.route.Hop.{Hop}
use Rattle.link_steps.specs.Levels.{level_of}
use Rattle.link_steps.specs.declared.asks.Ask.{Ask}
use Rattle.link_steps.specs.declared.asks.Ask.TheVariants.{Reserve, Relax, Deny as GiveBack}
use Rattle.link_steps.specs.declared.replies.Refusal.{Refusal}
use Rattle.link_steps.specs.declared.replies.Refusal.TheVariants.{NoLevel, NoBuffer, TooWide, NoSuch}
use Rattle.link_steps.specs.declared.replies.Reply.{Reply}
use Rattle.link_steps.specs.declared.replies.Reply.TheVariants.{Offer, Relaxed, Denied, Refused}
use Rattle.relaxation.specs.Allotment.{denial_of, allotted}
use Rattle.relaxation.specs.declared.EndDenial.{EndDenial}
use Rattle.setup_protocol.specs.Requests.{kind_of, jitter_of}
use Rattle.setup_protocol.specs.declared.request.Request.{Request}
use Rattle.setup_protocol.specs.declared.verdict.Deny.{Deny}
use Rattle.setup_protocol.specs.declared.verdict.Deny.TheVariants.{Hop as AtHop, End}

-- ---- the offers at the start of the replies

-- whether a reply is an offer
abbrev pub is_offer : Reply → Bool
is_offer (Offer level reach) = true
is_offer _ = false

-- the level and the reach of an offer
abbrev pub level_in : Reply → ℕ
level_in (Offer level reach) = level_number level
level_in _ = 0

abbrev pub reach_in : Reply → ℕ
reach_in (Offer level reach) = level_number reach
reach_in _ = 0

-- the levels that the hops have offered, from the first hop on
unfoldable pub offers_in : List Reply → List ℕ
offers_in [] = []
offers_in (reply ∷ replies) = if is_offer reply then level_in reply ∷ offers_in replies else []

-- the replies after the offers
unfoldable pub after_offers : List Reply → List Reply
after_offers [] = []
after_offers (reply ∷ replies) = if is_offer reply then after_offers replies else reply ∷ replies

-- the bound of the last offer's reach in ticks, or `before` where there is no offer
unfoldable pub reach_after : ℕ → List Hop → List Reply → ℕ
reach_after before hops [] = before
reach_after before [] (reply ∷ replies) = before
reach_after before (hop ∷ hops) (reply ∷ replies) = if is_offer reply then reach_after (bound_at hop.bounds (reach_in reply)) hops replies else before

-- ---- how far a setup has come

-- what a request comes to: its levels with the bound on its delay, or why it is denied
pub data Outcome : Type 0 where
  Accepts : List ℕ → ℕ → Outcome
  Denies : Deny → Outcome

-- the hops reserve, with the levels offered and the last reach; `left` hops are left to give their rows back, or to be
-- relaxed; or nothing is left
pub data Progress : Type 0 where
  Reserving : List ℕ → ℕ → Progress
  Undoing : ℕ → Deny → Progress
  Relaxing : ℕ → List ℕ → Progress
  Settled : Outcome → Progress

-- with `left` hops left to give their rows back
abbrev pub undoing : ℕ → Deny → Progress
undoing zero deny = Settled (Denies deny)
undoing (suc left) deny = Undoing (suc left) deny

-- with `left` hops left to be relaxed
abbrev pub relaxing : List Hop → ℕ → List ℕ → Progress
relaxing hops zero levels = Settled (Accepts levels (delay_over hops levels))
relaxing hops (suc left) levels = Relaxing (suc left) levels

-- the refusal that a reply tells; no other reply stands after offers on the way forward
abbrev pub refusal_in : Reply → Refusal
refusal_in (Refused refusal) = refusal
refusal_in _ = NoSuch

-- on the way forward, with these offers and replies after them
abbrev pub on_the_way : List ℕ → ℕ → List Reply → Progress
on_the_way offers reach [] = Reserving offers reach
on_the_way offers reach (reply ∷ denied) = undoing (length offers - length denied) (AtHop (suc (length offers)) (refusal_in reply))

-- after the destination's test, with `count` replies after the offers
abbrev pub after_test : Request → List ℕ → ℕ → Option EndDenial → Progress
after_test request offers count (Some denial) = undoing (length request.route - count) (End denial)
after_test request offers count None = relaxing request.route (length request.route - count) (allotted request.route offers request.delay (jitter_of request.control))

-- the same, once all hops have offered
abbrev pub at_destination : Request → List ℕ → ℕ → Progress
at_destination request offers count = after_test request offers count (denial_of request.route offers request.delay (jitter_of request.control))

-- how far a setup with these replies has come
abbrev pub progress_of : Request → List Reply → Progress
progress_of request replies =
    if nat_lt (length (offers_in replies)) (length request.route)
    then on_the_way (offers_in replies) (reach_after 0 request.route replies) (after_offers replies)
    else at_destination request (offers_in replies) (length (after_offers replies))

-- ---- what is asked next

-- an ask of a hop, if it is there
abbrev pub asked_of : Option Hop → (Hop → Ask) → Option (LinkNo × Ask)
asked_of None ask = None
asked_of (Some hop) ask = Some (hop.link, ask hop)

-- the link of a hop
abbrev pub hop_link : Hop → LinkNo
hop_link hop = hop.link

-- the reserve of the first hop that has no level
abbrev pub reserve_of : Request → List ℕ → ℕ → Ask
reserve_of request offers reach =
    Reserve request.chan request.contract (kind_of request.control) request.delay reach (nat_eq (length offers) 0) (option_map hop_link (slice_get request.route (suc (length offers))))

-- the bound of a hop's level, if the hop is there
abbrev pub bound_if : Option Hop → ℕ → ℕ
bound_if None level = 0
bound_if (Some hop) level = bound_at hop.bounds level

-- the bound that a hop is allotted, by its place from 1, or 0 before the first hop
abbrev pub bound_given : List Hop → List ℕ → ℕ → ℕ
bound_given hops levels zero = 0
bound_given hops levels (suc i) = bound_if (slice_get hops i) (slice_index levels i)

-- the relax of the hop at a place
abbrev pub relax_of : Request → List ℕ → ℕ → Ask
relax_of request levels place = Relax request.chan (level_of (slice_index levels (place - 1))) (bound_given request.route levels (place - 1))

-- what is asked where a setup has come so far, and of which link
abbrev pub asked : Request → Progress → Option (LinkNo × Ask)
asked request (Reserving offers reach) = asked_of (slice_get request.route (length offers)) (λ hop. reserve_of request offers reach)
asked request (Undoing left deny) = asked_of (slice_get request.route (left - 1)) (λ hop. GiveBack request.chan)
asked request (Relaxing left levels) = asked_of (slice_get request.route (left - 1)) (λ hop. relax_of request levels left)
asked request (Settled outcome) = None

-- the next ask after these replies, if one is left
abbrev pub next_ask : Request → List Reply → Option (LinkNo × Ask)
next_ask request replies = asked request (progress_of request replies)

-- ---- the verdict

-- the outcome, where nothing is left to ask
abbrev pub settled_in : Progress → Option Outcome
settled_in (Settled outcome) = Some outcome
settled_in _ = None

-- what the request has come to with these replies, or nothing while an ask is left
abbrev pub verdict_of : Request → List Reply → Option Outcome
verdict_of request replies = settled_in (progress_of request replies)

-- ---- the replies of an ask

-- a reserve is refused for its packets, its level or its buffer
abbrev pub is_reserve_refusal : Refusal → Bool
is_reserve_refusal (NoLevel sum bound) = true
is_reserve_refusal (NoBuffer need free) = true
is_reserve_refusal (TooWide smax cap) = true
is_reserve_refusal _ = false

-- whether this is a reply to a reserve of a hop with this many levels, to a deny, or to a relax
abbrev pub answers_reserve : ℕ → Reply → Bool
answers_reserve levels (Offer level reach) = nat_le (level_number level) levels && nat_le (level_number reach) levels
answers_reserve levels (Refused refusal) = is_reserve_refusal refusal
answers_reserve levels _ = false

abbrev pub answers_deny : Reply → Bool
answers_deny Denied = true
answers_deny _ = false

abbrev pub answers_relax : Reply → Bool
answers_relax (Relaxed clock) = true
answers_relax _ = false

-- whether this is a reply to what is asked where a setup has come so far
abbrev pub is_expected : Request → Progress → Reply → Bool
is_expected request (Reserving offers reach) reply = answers_reserve (next_levels request.route offers) reply
is_expected request (Undoing left deny) reply = answers_deny reply
is_expected request (Relaxing left levels) reply = answers_relax reply
is_expected request (Settled outcome) reply = false
