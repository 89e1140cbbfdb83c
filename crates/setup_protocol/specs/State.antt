-- How far a setup has come is kept in a state beside the offers: which hops are still to be asked, and for what. A reply
-- to what is asked takes it on by one hop.
use Rattle.std.specs.Prelude.{◌≡◌, ℕ, suc, ◌-◌, ◌≤◌, true, nat_lt, if◌then◌else◌, List, [], ◌∷◌, ◌++◌, length}
use Rattle.net_units.specs.Allotted.{levels_of}
use Rattle.net_units.specs.Numbers.{level_number}
use Rattle.hop_reservation.specs.Offers.{next_bound, AreLevels}
use Rattle.hop_reservation.specs.declared.route.Hop.{Hop}
use Rattle.link_steps.specs.declared.replies.Reply.{Reply}
use Rattle.link_steps.specs.declared.replies.Reply.TheVariants.{Offer}
use Rattle.setup_protocol.specs.Setup.{Outcome, Accepts, Denies, Progress, Reserving, Undoing, Relaxing, Settled, undoing, relaxing, at_destination, refusal_in, is_reserve_refusal}
use Rattle.setup_protocol.specs.declared.request.Request.{Request}
use Rattle.setup_protocol.specs.declared.setup.State.{State}
use Rattle.setup_protocol.specs.declared.setup.State.TheVariants as state
use Rattle.setup_protocol.specs.declared.verdict.Deny.{Deny}
use Rattle.setup_protocol.specs.declared.verdict.Deny.TheVariants.{Hop as AtHop, End}
use Rattle.setup_protocol.specs.declared.verdict.Verdict.{Verdict}
use Rattle.setup_protocol.specs.declared.verdict.Verdict.TheVariants as verdict

-- what a verdict says
abbrev pub outcome_of : Verdict → Outcome
outcome_of (verdict.Accepted levels delay) = Accepts (levels_of levels) delay
outcome_of (verdict.Denied deny) = Denies deny

-- how far a setup in this state, with these offers, has come
abbrev pub progress_at : List ℕ → ℕ → State → Progress
progress_at offers reach state.Reserving = Reserving offers reach
progress_at offers reach (state.Undoing left deny) = Undoing left deny
progress_at offers reach (state.Relaxing left levels) = Relaxing left (levels_of levels)
progress_at offers reach (state.Settled verdict) = Settled (outcome_of verdict)

-- a place of the route
pub record IsPlace (route : List Hop) (place : ℕ) : Type 0 where
  pub least : 1 ≤ place
  pub most : place ≤ length route

-- each hop has one of its levels
pub record HaveLevels (route : List Hop) (levels : List ℕ) : Type 0 where
  pub are_levels : AreLevels route levels
  pub whole : length levels ≡ length route

-- a denial by a hop names a place of the route, and tells a refusal of a reserve
abbrev pub IsDenyOf : List Hop → Deny → Type 0
IsDenyOf route (AtHop hop refusal) = IsPlace route hop × (is_reserve_refusal refusal ≡ true)
IsDenyOf route (End denial) = Unit {0}

-- an acceptance gives each hop one of its levels
abbrev pub IsVerdictOf : List Hop → Verdict → Type 0
IsVerdictOf route (verdict.Accepted levels delay) = HaveLevels route (levels_of levels)
IsVerdictOf route (verdict.Denied deny) = IsDenyOf route deny

-- a state that a setup over this route, with this number of offers, can be in
abbrev pub IsStateOf : List Hop → List ℕ → State → Type 0
IsStateOf route offers state.Reserving = suc (length offers) ≤ length route
IsStateOf route offers (state.Undoing left deny) = IsPlace route left × IsDenyOf route deny
IsStateOf route offers (state.Relaxing left levels) = IsPlace route left × HaveLevels route (levels_of levels)
IsStateOf route offers (state.Settled verdict) = IsVerdictOf route verdict

-- ---- one reply more

-- with the offers of some hops, or of all, and no reply after them
abbrev pub with_offers : Request → List ℕ → ℕ → Progress
with_offers request offers reach = if nat_lt (length offers) (length request.route) then Reserving offers reach else at_destination request offers 0

-- after the reply to the reserve of the first hop that has no level
abbrev pub after_reserve : Request → List ℕ → Reply → Progress
after_reserve request offers (Offer level reach) = with_offers request (offers ++ level_number level ∷ []) (next_bound request.route offers (level_number reach))
after_reserve request offers reply = undoing (length offers) (AtHop (suc (length offers)) (refusal_in reply))

-- how far a setup has come with one reply more
abbrev pub advance : Request → Progress → Reply → Progress
advance request (Reserving offers reach) reply = after_reserve request offers reply
advance request (Undoing left deny) reply = undoing (left - 1) deny
advance request (Relaxing left levels) reply = relaxing request.route (left - 1) levels
advance request (Settled outcome) reply = Settled outcome
