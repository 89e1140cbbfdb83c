-- In every run a channel of which a packet was taken is accepted.
use Rattle.std.proofs.Common.{◌≡◌, ℕ, zero, suc, ◌≤◌, Bool, true, false, List, [], ◌∷◌, ◌++◌, Option, Some, None, refl, sym, ap, ◌∙◌, subst, inl, inr, arith}
use Rattle.run_engine.proofs.Words.{cases_lt, same_Some, channel_number, LinkNo, Ask, Reply, Each, Reservation, scan_of, RequestFits, Progress, Reserving, Undoing, Relaxing, Settled, Accepts, Denies, Outcome, asked, progress_of, undoing, relaxing, Request, NetworkFits, OwnedFully, Learnt, Standing, task_ask, continued, resumed, standing, outcome_in, Network, Task, part_of, replies_to, Done, IsNext, IsRun, HopAt, count_at}
use Rattle.link_steps.specs.declared.replies.Phase.TheVariants as Ph
use Rattle.setup_protocol.proofs.HopHolds.{IsTail, HopStands, reserved_of, View, OnWay, Back, Forth, view}
use Rattle.interleave_core.specs.channels.Guarantee.{IsAccepted, AcceptedIn}
use Rattle.interleave_core.proofs.Channels.ChainLaw.{open-or-not}
use Rattle.interleave_core.proofs.Channels.FarHolds.{first-same}
use Rattle.run_engine.proofs.Channels.RowsFollow.{held_at_hop}
use Rattle.run_engine.proofs.Replies.RunCloses.{owned-once, fully-asked}
use Rattle.run_engine.proofs.Replies.RunGoes.{GoesAt, IsAfter, run-goes}
use Rattle.run_engine.proofs.Runs.EachRun.{each-resumed, entry-kept}
use Rattle.run_engine.proofs.Tasks.EachSetup.{Before, Under, After, other-outcome}
use Rattle.run_engine.proofs.Tasks.TaskAsks.{IsNoOpeningOf, ready-other}

module _ (request : Request) (outcomes : List Learnt) (task : Task) (tasks : List Task) (replies : List Reply) where
  -- ---- once accepted it stays so

  continued-kept : (next : Option (LinkNo × Ask)) → IsNoOpeningOf (channel_number request.chan) task → outcome_in request.chan (continued outcomes task tasks replies next).outcomes ≡ outcome_in request.chan outcomes
  continued-kept (Some to) other = refl
  continued-kept None other = other-outcome request task replies outcomes other

  resumed-kept : IsNoOpeningOf (channel_number request.chan) task → outcome_in request.chan (resumed outcomes (task ∷ tasks) replies).outcomes ≡ outcome_in request.chan outcomes
  unfolding resumed
  resumed-kept other = continued-kept (task_ask task replies) other

goes-others : (network : Network) (request : Request) (run : List Done) (tasks : List Task) (replies : List Reply) (outcomes : List Learnt) (outcome : Outcome) → GoesAt network request run tasks replies outcomes → outcome_in request.chan outcomes ≡ Some outcome → Each (IsNoOpeningOf (channel_number request.chan)) tasks
goes-others network request run tasks replies outcomes outcome (Before opened begun quiet none) accepted = absurd (let clash : None ≡ Some outcome = sym quiet ∙ accepted in cc)
goes-others network request run tasks replies outcomes outcome (Under rest is others quiet to more rows) accepted = absurd (let clash : None ≡ Some outcome = sym quiet ∙ accepted in cc)
goes-others network request run tasks replies outcomes outcome (After others after) accepted = others

-- the outcome, with no task left that opens the request
abbrev IsOver : Request → Option Outcome → List Done → Standing → Type 0
IsOver request outcome run at = (outcome_in request.chan at.outcomes ≡ outcome) × Each (IsNoOpeningOf (channel_number request.chan)) at.tasks

accepted-later : (network : Network) (request : Request) (owner : ℕ) (done : Done) (past : List Done) → NetworkFits network → RequestFits network.links request → OwnedFully network request owner → IsRun network past → IsNext network past done → AcceptedIn network request owner past → AcceptedIn network request owner (done ∷ past)
accepted-later network request owner done past fits sound full run next was tasks found =
    let before = was tasks found in
    let others = goes-others network request past _ _ _ (Accepts before.levels before.delay) ((run-goes network request owner fits sound (owned-once network request owner full) past run).at tasks found) before.is in
    let now : IsOver request (Some (Accepts before.levels before.delay)) (done ∷ past) (standing tasks (replies_to owner (done ∷ past))) = entry-kept network owner tasks found (IsOver request (Some (Accepts before.levels before.delay))) (λ past' done' at run' next' other over. over)
    (λ past' done' task rest replies outcomes step over. (resumed-kept request outcomes task rest (replies ++ done'.reply ∷ []) over.1.0 ∙ over.0, each-resumed (IsNoOpeningOf (channel_number request.chan)) (ready-other (channel_number request.chan)) outcomes (task ∷ rest) (replies ++ done'.reply ∷ []) over.1))
    past done run next (before.is, others) in
    record { levels = before.levels; delay = before.delay; is = now.0 }

-- ---- a setup that leaves the first hop committed has accepted

abbrev IsDone : Progress → Type 0
IsDone (Reserving offers reach) = ⊥
IsDone (Undoing left deny) = ⊥
IsDone (Relaxing left levels) = left ≤ 0
IsDone (Settled (Accepts levels delay)) = Unit {0}
IsDone (Settled (Denies deny)) = ⊥

stands-done : (request : Request) (offers : List ℕ) (p : Progress) (held : Option Reservation) (terms : Reservation) → HopStands None Some request offers p 0 held → held ≡ Some terms → terms.phase ≡ Ph.Committed → IsDone p
stands-done request offers p held terms stands is phase =
    elim (cases_lt 0 (reserved_of offers p)) [
      | inl less ↦ absurd (let tent = stands.tent less in let same : tent.terms ≡ terms = same_Some tent.terms terms (sym tent.is ∙ is) in let clash : Ph.Tentative ≡ Ph.Committed = sym tent.phase ∙ ap (λ k. k.phase) same ∙ phase in cc)
      | inr from ↦ by-progress p from (stands.tail (omega (arith, from)))
    ] where
      by-progress : (q : Progress) → reserved_of offers q ≤ 0 → IsTail None Some request q 0 held → IsDone q
      by-progress (Relaxing left levels) from comm = from
      by-progress (Settled (Accepts levels delay)) from comm = tt
      by-progress _ from none = (let clash : None ≡ Some terms = sym none ∙ is in cc)

record Settles' (request : Request) (replies : List Reply) : Type 0 where
  levels : List ℕ
  delay : ℕ
  is : progress_of request replies ≡ Settled (Accepts levels delay)

relaxed-settles : (request : Request) (replies : List Reply) (levels : List ℕ) (n : ℕ) → progress_of request replies ≡ relaxing request.route n levels → IsDone (relaxing request.route n levels) → Settles' request replies
relaxed-settles request replies levels zero same all = record { levels = _; delay = _; is = same }
relaxed-settles request replies levels (suc n) same all = absurd (omega (arith, all))

settles-done : (request : Request) (replies : List Reply) → View request replies → IsDone (progress_of request replies) → Settles' request replies
settles-done request replies (OnWay fewer after is) done = absurd (subst IsDone is done)
settles-done request replies (Back left deny upto is) done = absurd (undone left (subst IsDone is done)) where
  undone : (n : ℕ) → IsDone (undoing n deny) → ⊥
  undone zero none = none
  undone (suc n) none = none
settles-done request replies (Forth left upto whole none is) done = relaxed-settles request replies _ left is (subst IsDone is done)

module _ (network : Network) (request : Request) (owner : ℕ) (first : HopAt network request 0) where
  -- so a request whose first hop is committed is accepted
  pub committed-accepted : (run : List Done) → NetworkFits network → RequestFits network.links request → OwnedFully network request owner → IsRun network run → (terms : Reservation) → held_at_hop network request 0 first run ≡ Some terms → terms.phase ≡ Ph.Committed → AcceptedIn network request owner run
  committed-accepted run fits sound full is terms held phase tasks found = by ((run-goes network request owner fits sound (owned-once network request owner full) run is).at tasks found) where
    at : Standing
    at = standing tasks (replies_to owner run)

    none-held : held_at_hop network request 0 first run ≡ None → ⊥
    none-held none = (let clash : None ≡ Some terms = sym none ∙ held in cc)

    by-after : (after : IsAfter network request run (outcome_in request.chan at.outcomes)) → (accepted : Bool) → after.accepted ≡ accepted → IsAccepted request at
    by-after after true ok = (let told = after.recorded.is ok in record { levels = after.levels; delay = told.0; is = told.1 })
    by-after after false denied = absurd (none-held (after.denied denied 0 first))

    by : GoesAt network request run at.tasks at.replies at.outcomes → IsAccepted request at
    by (Before opened begun quiet none) = absurd (none-held (none 0 first))
    by (Under rest same others quiet to more rows) =
        (let settles = settles-done request at.replies (view request at.replies) (stands-done request _ _ (held_at_hop network request 0 first run) terms (rows.hops 0 first) held phase) in
        absurd (let clash : None ≡ Some to = sym (ap (asked request) settles.is) ∙ more in cc))
    by (After others after) = by-after after after.accepted refl

  taken-next : (done : Done) (past : List Done) → NetworkFits network → RequestFits network.links request → OwnedFully network request owner → IsRun network past → (next : IsNext network past done) → (1 ≤ count_at network request 0 first past → AcceptedIn network request owner past) → 1 ≤ count_at network request 0 first (done ∷ past) → AcceptedIn network request owner (done ∷ past)
  taken-next done past fits sound full run next was some =
      let asked' = fully-asked network request owner fits sound full in
      elim (open-or-not (held_at_hop network request 0 first past)) [
        | inl opened ↦ accepted-later network request owner done past fits sound full run next (committed-accepted past fits sound full run opened.0 opened.1 opened.2)
        | inr quiet ↦ (let same = first-same network request first done past fits (asked' past run) run next (λ tick. quiet) in accepted-later network request owner done past fits sound full run next (was (omega (arith, same, some))))
      ]

  -- a channel of which a packet was taken is accepted
  pub taken-accepted : (run : List Done) → NetworkFits network → RequestFits network.links request → OwnedFully network request owner → IsRun network run → 1 ≤ count_at network request 0 first run → AcceptedIn network request owner run
  unfolding IsRun part_of scan_of
  taken-accepted [] fits sound full is some = absurd (omega (arith, some))
  taken-accepted (done ∷ past) fits sound full is some =
      taken-next done past fits sound full is.0 is.1 (λ before. taken-accepted past fits sound full is.0 before) some
