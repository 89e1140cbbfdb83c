-- Each step of a move releases a hop of the channel that is left, or plans on the other channel what the first release has cancelled.
use Rattle.std.proofs.Common.{◌≡◌, ℕ, zero, suc, ◌+◌, ◌≤◌, false, List, [], ◌∷◌, ◌++◌, Some, None, refl, sym, ap, ◌∙◌, subst, arith}
use Rattle.run_engine.proofs.Words.{eqb-false, same_Some, slice_get_within, slice_get, nat_eq, link_number, channel_number, link_of, shifted_in, stage_after, Releasing, Release, Reply, Each, RequestFits, first_count, Request, NetworkFits, TaskFits, MoveFits, OwnedFully, AllOwned, Learnt, Standing, move_between, standing, ask_at, Network, Task, Moves, replies_to, Done, IsRun, cancelled_with, HopAt}
use Rattle.channel_move.proofs.AskByStage.{HopAsked, MoveAsks, AsksFirst, AsksSubmit, AsksRest, move-asks, rest-length}
use Rattle.interleave_core.specs.channels.Shifting.{MoveStep, Leaves, Joins, Frees, EveryMovePlansTheShifted}
use Rattle.interleave_core.proofs.Channels.ChainLaw.{leaves-frozen}
use Rattle.run_engine.proofs.Channels.HopsAt.{hop-at}
use Rattle.interleave_core.proofs.Moves.LastPackets.{moves-take-last}
use Rattle.interleave_core.proofs.Moves.MoveTotal.{cancelled_at, own-release, entry-cancels, first-cancels, run-shifted}
use Rattle.run_engine.proofs.Moves.JoinedPlans.{moves-plan}
use Rattle.run_engine.proofs.Replies.RunCloses.{step-kind, fully-asked}
use Rattle.run_engine.proofs.Runs.RunLegal.{run-stands, owner-asks}
use Rattle.run_engine.proofs.Runs.EachRun.{OwnStep}
use Rattle.run_engine.proofs.Replies.OwnerKinds.{stage-told}

-- two hops at one place
hop-link : (network : Network) (request : Request) (k : ℕ) (at : HopAt network request k) (to : _) → HopAsked request.route k to → link_number to ≡ link_number at.hop.link
hop-link network request k at to own = ap link_number own.at ∙ ap link_of (same_Some own.hop at.hop (sym own.stands ∙ at.stands))

-- where the caller stands with its move under way
under-way : (at : Standing) (old new : Request) (gap size : ℕ) (rest : List Task) → at.tasks ≡ Moves old new gap size ∷ rest → at ≡ record { tasks = Moves old new gap size ∷ rest; replies = at.replies; outcomes = at.outcomes }
under-way at old new gap size rest same = ap (λ ts. record { tasks = ts; replies = at.replies; outcomes = at.outcomes }) same

-- the move's task fits
pub move-fits : (network : Network) (run : List Done) (owner gap size : ℕ) (tasks rest : List Task) (old new : Request) → NetworkFits network → IsRun network run → slice_get network.scripts owner ≡ Some tasks → (standing tasks (replies_to owner run)).tasks ≡ Moves old new gap size ∷ rest → MoveFits network.links old new gap size
move-fits network run owner gap size tasks rest old new fits is found first = head (subst (Each (TaskFits network.links)) first ((run-stands network run fits is).callers owner tasks found).tasks) where
  head : Each (TaskFits network.links) (Moves old new gap size ∷ rest) → MoveFits network.links old new gap size
  head each = each.0

-- the first reply, with more of them
stays-told : (replies : List Reply) (more : List Reply) (kept : ℕ) → first_count replies ≡ Some kept → first_count (replies ++ more) ≡ Some kept
stays-told [] more kept is = cc
stays-told (first ∷ replies) more kept is = is

-- ---- the three kinds

some-more : (n : ℕ) → nat_eq n 0 ≡ false → 1 ≤ n
some-more n is = (let other = eqb-false n 0 is in omega (arith, other))

-- before the first release nothing was cancelled
none-before : (network : Network) (request : Request) (first : HopAt network request 0) (done : Done) (past : List Done) → link_number done.link ≡ link_number first.hop.link → done.ask ≡ Release request.chan None → cancelled_at network request first (done ∷ past) ≡ shifted_in done.reply → cancelled_at network request first past ≡ 0
none-before network request first done past on is now =
    let more : cancelled_at network request first (done ∷ past) ≡ cancelled_at network request first past + shifted_in done.reply =
    entry-cancels network request first done past on ∙ ap (λ a. cancelled_with (channel_number request.chan) (cancelled_at network request first past) a done.reply) is ∙ own-release request.chan (cancelled_at network request first past) None done.reply in
    omega (arith, now, more)

module _ (network : Network) (past : List Done) (done : Done) (owner gap size : ℕ) (script rest : List Task) (old new : Request) (first : HopAt network old 0) (replies : List Reply) (outcomes : List Learnt) (fits : NetworkFits network) (all : AllOwned network) (sound : RequestFits network.links old) (full : OwnedFully network old owner) (step : OwnStep network owner script past done (Moves old new gap size) rest replies outcomes) where
  at-tasks : (standing script (replies_to owner past)).tasks ≡ Moves old new gap size ∷ rest
  at-tasks = ap (λ (s : Standing). s.tasks) step.stands

  fit : MoveFits network.links old new gap size
  fit = move-fits network past owner gap size script rest old new fits step.run step.found at-tasks

  step-of : MoveAsks (move_between old new gap size) replies done.link done.ask → MoveStep network past done step.next old new first
  step-of (AsksFirst none own release) =
      let on = hop-link network old 0 first done.link own in
      let kind = step-kind network old owner script past done (Moves old new gap size) rest replies outcomes fits sound full step in
      let now = first-cancels network old first done past (Moves old new gap size) replies fits (fully-asked network old owner fits sound full past step.run) step.run step.next refl none kind in
      Leaves on release (none-before network old first done past on release now)
  step-of (AsksSubmit reply one some own submit) =
      let to = hop-at network new 0 fit.of_new (slice_get_within new.route 0 own.hop own.stands) in
      let plans = moves-plan network owner script past done fits all old new gap size rest replies outcomes (shifted_in reply) step submit in
      Joins (shifted_in reply) gap size (record {
        to = to;
        on = hop-link network new 0 to done.link own;
        asked = submit;
        shifted = sym ((run-shifted network old owner first fits sound full past step.run script step.found).way (Moves old new gap size) rest reply [] at-tasks refl (ap (λ (s : Standing). s.replies) step.stands ∙ one));
        some = some-more (shifted_in reply) some;
        like = moves-take-last network old new owner gap size first past script rest fits all sound full step.run step.found at-tasks;
        planned = plans.0;
        plan = plans.1;
      })
  step-of (AsksRest told made stage own release) = later made stage own where
    later : (made : ℕ) → stage_after replies ≡ Releasing told made → HopAsked old.route made done.link → MoveStep network past done step.next old new first
    later zero at hop = absurd (let least = (rest-length replies told zero at).1 in omega (arith, least))
    later (suc i) at hop =
        let here = hop-at network old (suc i) sound (slice_get_within old.route (suc i) hop.hop hop.stands) in
        let frozen = leaves-frozen network old owner first fits sound full script past done (Moves old new gap size) rest replies outcomes told.kept step refl (stays-told replies (done.reply ∷ []) told.kept (stage-told replies told (suc i) at)) in
        Frees i told.kept here (hop-link network old (suc i) here done.link hop) release frozen.upto

pub moves-step : EveryMovePlansTheShifted
moves-step network past done owner gap size tasks rest old new first fits all sound full run next by found task =
    let at = standing tasks (replies_to owner past) in
    let is = under-way at old new gap size rest task in
    let asks = subst (λ (s : Standing). ask_at s ≡ Some (done.link, done.ask)) is (owner-asks network past done owner tasks next by found) in
    step-of network past done owner gap size tasks rest old new first at.replies at.outcomes fits all sound full (record { run = run; next = next; by = by; found = found; stands = is; asks = asks }) (move-asks (move_between old new gap size) at.replies done.link done.ask asks)
