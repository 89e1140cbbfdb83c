-- The work of a task: at its beginning, and with one more reply.
use Rattle.std.proofs.Common.{◌≡◌, ℕ, true, ◌-◌, ◌<◌, ◌≤◌, Option, Some, None, IsSome, List, [], ◌∷◌, ◌++◌, length, refl, sym, ap, ◌∙◌, inl, inr, option_map, arith}
use Rattle.std.proofs.lemmas.Bool.{cases_lt}
use Rattle.std.proofs.lemmas.Option.{slice_get_cases}
use Rattle.std.specs.List.{slice_get}
use Rattle.net_units.specs.declared.numbers.ChanNo.{ChanNo}
use Rattle.net_units.specs.declared.numbers.LinkNo.{LinkNo}
use Rattle.hop_reservation.specs.declared.route.Hop.{Hop}
use Rattle.link_steps.specs.declared.asks.Ask.{Ask}
use Rattle.link_steps.specs.declared.replies.Reply.{Reply}
use Rattle.setup_protocol.proofs.SetupAdvances.{progress-none}
use Rattle.setup_protocol.specs.Releases.{Releases}
use Rattle.setup_protocol.specs.Setup.{asked, asked_of, next_ask, progress_of, settled_in}
use Rattle.setup_protocol.specs.Standing.{progress_in, SetupStands}
use Rattle.setup_protocol.specs.State.{IsStateOf, progress_at}
use Rattle.setup_protocol.specs.Teardown.{next_release}
use Rattle.setup_protocol.specs.declared.request.Request.{Request}
use Rattle.setup_protocol.specs.declared.setup.Setup.{Setup}
use Rattle.setup_protocol.specs.declared.setup.State.{State}
use Rattle.setup_protocol.specs.declared.setup.State.TheVariants as state
use Rattle.setup_protocol.specs.declared.teardown.Teardown.{Teardown}
use Rattle.call_script.specs.Scripts.{first_ask}
use Rattle.channel_move.specs.Moving.{at_end, next_of_move}
use Rattle.channel_move.specs.Stages.{ask_in, released_in, told_in}
use Rattle.channel_move.specs.Standing.{Moves as Stands, move_of}
use Rattle.channel_move.specs.declared.mover.Mover.{Mover}
use Rattle.channel_move.specs.declared.shifted.Shifted.{Shifted}
use Rattle.channel_move.specs.declared.mover.Stage.{Stage}
use Rattle.channel_move.specs.declared.mover.Stage.TheVariants as stage
use Rattle.channel_move.proofs.AskByStage.{stage-asks}
use Rattle.call_script.specs.Work.{WorkStands, IsOpening, IsClosing, IsMoving, TaskGoesOn, is_under_way}
use Rattle.call_script.specs.declared.tasks.Task.{Task}
use Rattle.call_script.specs.declared.tasks.Task.TheVariants.{Opens, Closes, Moves}
use Rattle.call_script.specs.declared.work.Work.{Work}
use Rattle.call_script.specs.declared.work.Work.TheVariants as work

-- a setup that begins has an ask left
pub fresh-setup : (setup : Setup) (request : Request) → setup.request ≡ request → 1 ≤ length request.route → SetupStands setup [] → settled_in (progress_in setup) ≡ None
fresh-setup setup request same least stands =
    ap settled_in stands ∙ ap (λ r. settled_in (progress_of r [])) same ∙ ap settled_in (progress-none request least)

-- ---- a setup that isn't settled asks

record HasAsk (next : Option (LinkNo × Ask)) : Type 0 where
  to : LinkNo
  ask : Ask
  asks : next ≡ Some (to, ask)

slice-found : (hops : List Hop) (i : ℕ) → i < length hops → (hop : Hop) × (slice_get hops i ≡ Some hop)
slice-found hops i within =
    elim (slice_get_cases hops i).1 [
      | inl at ↦ (at.0, at.2)
      | inr past ↦ absurd (omega (arith, past.0))
    ]

found-asks : (found : Option Hop) (ask : Ask) → (hop : Hop) × (found ≡ Some hop) → HasAsk (option_map (λ (hop : Hop). (hop.link, ask)) found)
found-asks found ask at = record { to = at.0.link; ask = ask; asks = ap (option_map (λ (hop : Hop). (hop.link, ask))) at.1 }

asks-hop : (hops : List Hop) (i : ℕ) (own : Hop → Ask) → i < length hops → HasAsk (asked_of (slice_get hops i) own)
asks-hop hops i own within =
    elim (slice_get_cases hops i).1 [
      | inl at ↦ record { to = at.0.link; ask = own at.0; asks = ap (λ found. asked_of found own) at.2 }
      | inr past ↦ absurd (omega (arith, past.0))
    ]

unsettled-asks : (request : Request) (offers : List ℕ) (reach : ℕ) (at : State) → IsStateOf request.route offers at → settled_in (progress_at offers reach at) ≡ None → HasAsk (asked request (progress_at offers reach at))
unsettled-asks request offers reach state.Reserving is left = asks-hop request.route (length offers) _ (omega (arith, is))
unsettled-asks request offers reach (state.Undoing n deny) is left = asks-hop request.route (n - 1) _ (omega (arith, is.0.least, is.0.most))
unsettled-asks request offers reach (state.Relaxing n levels) is left = asks-hop request.route (n - 1) _ (omega (arith, is.0.least, is.0.most))
unsettled-asks request offers reach (state.Settled verdict) is left = cc

-- a task is under way where an ask is left
pub under-way : (at : Work) (tasks : List Task) (replies : List Reply) → WorkStands at tasks replies → IsSome (first_ask tasks replies) → is_under_way at ≡ true
under-way (work.Opening chan setup) tasks replies stands left = refl
under-way (work.Once to ask) tasks replies stands left = refl
under-way (work.Closing teardown) tasks replies stands left = refl
under-way (work.Moving from to gap size mover) tasks replies stands left = refl
under-way work.Idle [] replies stands left = cc
under-way work.Idle (task ∷ tasks) replies stands left = absurd stands

-- ---- one reply more

-- the setup goes on
pub opening-goes-on : (chan : ChanNo) (old new : Setup) (request : Request) (tasks : List Task) (replies : List Reply) (reply : Reply)
    → new.request ≡ old.request → ((rs : List Reply) → SetupStands old rs → SetupStands new (rs ++ reply ∷ [])) → settled_in (progress_in new) ≡ None → IsOpening chan old request replies
    → TaskGoesOn (work.Opening chan new) (Opens request) tasks (replies ++ reply ∷ [])
opening-goes-on chan old new request tasks replies reply kept taken left was =
    let same = kept ∙ was.same in
    let stands = taken replies was.stands in
    let asks = unsettled-asks new.request new.itinerary.levels new.itinerary.reach new.state new.in_range left in
    let next : next_ask request (replies ++ reply ∷ []) ≡ asked new.request (progress_in new) =
    ap (asked request) (sym (stands ∙ ap (λ r. progress_of r (replies ++ reply ∷ [])) same)) ∙ ap (λ r. asked r (progress_in new)) (sym same) in
    record { to = asks.to; ask = asks.ask; asks = next ∙ asks.asks; stands = record { channel = was.channel; same = same; stands = stands; left = left } }

-- the teardown goes on
pub closing-goes-on : (old new : Teardown) (request : Request) (tasks : List Task) (replies : List Reply) (reply : Reply) (to : LinkNo) (ask : Ask)
    → new.chan ≡ old.chan → new.route ≡ old.route → ((rs : List Reply) → Releases old rs → Releases new (rs ++ reply ∷ []))
    → ((rs : List Reply) → Releases new rs → Some (to, ask) ≡ next_release new.chan new.route rs) → new.made < length new.route → IsClosing old request replies
    → TaskGoesOn (work.Closing new) (Closes request) tasks (replies ++ reply ∷ [])
closing-goes-on old new request tasks replies reply to ask chan route taken next left was =
    let stands = taken replies was.stands in
    let same = route ∙ was.route in
    record {
      to = to;
      ask = ask;
      asks = ap (λ c. next_release c request.route (replies ++ reply ∷ [])) (sym (chan ∙ was.channel)) ∙ ap (λ r. next_release new.chan r (replies ++ reply ∷ [])) (sym same) ∙ sym (next (replies ++ reply ∷ []) stands);
      stands = record { channel = chan ∙ was.channel; route = same; stands = stands; left = left };
    }

-- ---- moves

-- a move that has told what was shifted, and isn't over, has an ask
not-over : (next : Option (LinkNo × Ask)) (told : Shifted) → at_end next (Some told) ≡ None → HasAsk next
not-over None told over = cc
not-over (Some to) told over = record { to = to.0; ask = to.1; asks = refl }

mover-asks : (mover : Mover) → released_in mover.stage < length mover.leaving_route → at_end (ask_in (move_of mover) mover.stage) (told_in mover.stage) ≡ None → HasAsk (ask_in (move_of mover) mover.stage)
mover-asks mover left unfinished = by mover.stage left unfinished where
  by : (at : Stage) → released_in at < length mover.leaving_route → at_end (ask_in (move_of mover) at) (told_in at) ≡ None → HasAsk (ask_in (move_of mover) at)
  by stage.Leaving below over = found-asks (slice_get mover.leaving_route 0) _ (slice-found mover.leaving_route 0 (omega (arith, below)))
  by (stage.Joining told) below over = not-over (ask_in (move_of mover) (stage.Joining told)) told over
  by (stage.Releasing told made) below over = found-asks (slice_get mover.leaving_route made) _ (slice-found mover.leaving_route made below)

-- the move goes on
pub moving-goes-on : (from to : ChanNo) (gap size : ℕ) (old new : Mover) (one other : Request) (own_gap own_size : ℕ) (tasks : List Task) (replies : List Reply) (reply : Reply)
    → move_of new ≡ move_of old → ((rs : List Reply) → Stands old rs → Stands new (rs ++ reply ∷ [])) → released_in new.stage < length new.leaving_route → at_end (ask_in (move_of new) new.stage) (told_in new.stage) ≡ None → IsMoving from to gap size old one other own_gap own_size replies
    → TaskGoesOn (work.Moving from to gap size new) (Moves one other own_gap own_size) tasks (replies ++ reply ∷ [])
moving-goes-on from to gap size old new one other own_gap own_size tasks replies reply same taken left unfinished was =
    let stands = taken replies was.stands in
    let asks = mover-asks new left unfinished in
    record {
      to = asks.to;
      ask = asks.ask;
      asks = ap (λ m. next_of_move m (replies ++ reply ∷ [])) (sym (same ∙ was.move)) ∙ sym (stage-asks (move_of new) (replies ++ reply ∷ [])) ∙ ap (ask_in (move_of new)) (sym stands) ∙ asks.asks;
      stands = record { leaves = was.leaves; joins = was.joins; gaps = was.gaps; sizes = was.sizes; move = same ∙ was.move; stands = stands; left = left };
    }

pub below-unless : (made most : ℕ) → made ≤ most → (made ≡ most → ⊥) → made < most
below-unless made most within other =
    elim (cases_lt made most) [ inl below ↦ below | inr past ↦ (let same : made ≡ most = omega arith in absurd (other same)) ]
