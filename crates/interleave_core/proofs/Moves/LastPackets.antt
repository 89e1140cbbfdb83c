-- The packets of a move have the gap and the size of the last submit on the channel that it leaves, of those that the run has
-- answered as planned, and 1 and 1 where there is none.
use Rattle.std.proofs.Common.{◌≡◌, ◌≢◌, ℕ, ◌≤◌, true, false, List, [], ◌∷◌, ◌++◌, length, Option, Some, None, refl, sym, ap, ◌∙◌, subst, inl, inr, arith}
use Rattle.run_engine.proofs.Words.{cases_Bool, eqb-true, eqb-false, ne_eqb, same_Some, slice_get, nat_eq, not, ◌&&◌, link_number, channel_number, ChanNo, LinkNo, link_of, Hop, asked_at, shifted_in, told_by, Shifted, stage_after, Joining, Releasing, Ask, Submit, Release, Reply, Each, RequestFits, Outcome, verdict_of, Request, IsUnsent, NetworkFits, TaskFits, IsSendOn, OwnedFully, AllOwned, Learnt, Packets, Standing, packets_ask, is_that, newest, or_before, packets_by, packets_in, last_packets, move_between, task_ask, ready, from_step, begun, settled_as, outcome_by, standing, Network, Task, Opens, Sends, Closes, Moves, replies_to, part_of, Done, IsRun, last_with, last_planned, EveryMoveTakesTheLast, HopAt}
use Rattle.std.proofs.Math.Bool.{and-false}
use Rattle.channel_move.proofs.AskByStage.{HopAsked, MoveAsks, AsksFirst, AsksSubmit, AsksRest, move-asks}
use Rattle.link_steps.specs.declared.replies.Reply.TheVariants as Is
use Rattle.setup_protocol.proofs.HopAsks.{of-hop}
use Rattle.run_engine.proofs.Tasks.SingleAskTask.{once-asked}
use Rattle.run_engine.proofs.Moves.JoinedPlans.{moves-plan}
use Rattle.run_engine.proofs.Replies.ClosingStands.{off-unsent, setup-unsent}
use Rattle.run_engine.proofs.Replies.RunCloses.{others-off}
use Rattle.run_engine.proofs.Runs.RunLegal.{run-stands, part-on, by-part}
use Rattle.run_engine.proofs.Runs.EachRun.{from-step-by, KeptBySteps, each-run, OwnStep}
use Rattle.run_engine.proofs.Tasks.OwnTasks.{OwnTask, own-task}
use Rattle.run_engine.proofs.Replies.RunGoes.{step-stands}
use Rattle.run_engine.proofs.Moves.SizesKept.{packets_if}

-- ---- what an entry plans

-- an ask that submits nothing on the channel plans nothing there
unsent-last : (c : ℕ) (was : Packets) (ask : Ask) (reply : Reply) → IsUnsent c ask → last_with c was ask reply ≡ was
unsent-last c was (Submit chan count gap size) (Is.Planned clock) other = rw (ne_eqb (channel_number chan) c other) refl
unsent-last c was _ _ other = refl

abbrev last_at : (network : Network) → (request : Request) → HopAt network request 0 → List Done → Packets
last_at network request first run = last_planned (channel_number request.chan) (part_of (link_number first.hop.link) run)

entry-plans : (network : Network) (request : Request) (first : HopAt network request 0) (done : Done) (past : List Done) → link_number done.link ≡ link_number first.hop.link → last_at network request first (done ∷ past) ≡ last_with (channel_number request.chan) (last_at network request first past) done.ask done.reply
unfolding last_planned
entry-plans network request first done past on = ap (last_planned (channel_number request.chan)) (part-on (link_number first.hop.link) done past on)

-- an entry that plans nothing on the channel
still-last : (network : Network) (request : Request) (first : HopAt network request 0) (done : Done) (past : List Done) → ((was : Packets) → last_with (channel_number request.chan) was done.ask done.reply ≡ was) → last_at network request first (done ∷ past) ≡ last_at network request first past
unfolding last_planned
still-last network request first done past same =
    by-part (λ h. last_planned (channel_number request.chan) h ≡ last_at network request first past) (link_number first.hop.link) done past (λ on. same (last_at network request first past)) (λ off. refl)

unsent-same : (network : Network) (request : Request) (first : HopAt network request 0) (done : Done) (past : List Done) → IsUnsent (channel_number request.chan) done.ask → last_at network request first (done ∷ past) ≡ last_at network request first past
unsent-same network request first done past other = still-last network request first done past (λ was. unsent-last (channel_number request.chan) was done.ask done.reply other)

-- ---- what a task has learnt of packets, before it tells

abbrev learnt_by : ChanNo → List Task → List Reply → Option Packets
learnt_by chan (Sends link (Some own) count gap size ∷ tasks) (Is.Planned clock ∷ replies) = packets_if (is_that chan own) gap size
learnt_by chan (Moves old new gap size ∷ tasks) (first ∷ second ∷ replies) = packets_if (is_that chan new.chan && not (nat_eq (shifted_in first) 0)) gap size
learnt_by chan tasks replies = None

-- the last packets, by what is learnt so far
abbrev known_packets : ChanNo → Option Packets → List Learnt → Packets
known_packets chan learnt outcomes = packets_in (or_before learnt (newest (packets_by chan) outcomes))

none-learnt : (chan : ChanNo) (tasks : List Task) → learnt_by chan tasks [] ≡ None
none-learnt chan (Sends link (Some own) count gap size ∷ tasks) = refl
none-learnt chan _ = refl

-- ---- where a caller stands

-- a move under way is of the last packets that its caller knows
abbrev FirstLast : List Task → List Learnt → Type 0
FirstLast (Moves old new gap size ∷ tasks) outcomes = last_packets old.chan outcomes ≡ record { gap = gap; size = size }
FirstLast _ outcomes = Unit {0}

record LastAt (request : Request) (n : Packets) (at : Standing) : Type 0 where
  known : known_packets request.chan (learnt_by request.chan at.tasks at.replies) at.outcomes ≡ n
  first : FirstLast at.tasks at.outcomes

first-begun : (outcomes : List Learnt) (tasks : List Task) → FirstLast (from_step outcomes tasks) outcomes
first-begun outcomes tasks = from-step-by (λ left. Unit {0}) (λ ts. FirstLast ts outcomes) outcomes (λ none. tt) (λ task rest takes none. one rest task) (λ task rest over none. tt) tasks tt where
  one : (rest : List Task) (t : Task) → FirstLast (ready outcomes t ∷ rest) outcomes
  one rest (Moves old new gap size) = refl
  one rest _ = tt

last-begun : (request : Request) (n : Packets) (outcomes : List Learnt) (tasks : List Task) → packets_in (newest (packets_by request.chan) outcomes) ≡ n → LastAt request n (begun outcomes tasks)
last-begun request n outcomes tasks known = record {
  known = ap (λ learnt. known_packets request.chan learnt outcomes) (none-learnt request.chan (from_step outcomes tasks)) ∙ known;
  first = first-begun outcomes tasks;
}

-- ---- what a task tells at its end is what it has learnt

pub some-left : (move : Request) (new : Request) (gap size : ℕ) (reply : Reply) → 1 ≤ length new.route → task_ask (Moves move new gap size) (reply ∷ []) ≡ None → nat_eq (shifted_in reply) 0 ≡ true
some-left old new gap size reply least over =
    elim (cases_Bool (nat_eq (shifted_in reply) 0)) [
      | inl none ↦ none
      | inr some ↦ absurd (asked new.route least (Submit new.chan (shifted_in reply) gap size) (rw some at over))
    ] where
      asked : (route : List Hop) → 1 ≤ length route → (ask : Ask) → asked_at route 0 ask ≡ None → ⊥
      asked [] low ask is = omega (arith, low)
      asked (hop ∷ route) low ask is = cc

tells-learnt : (links : List _) (request : Request) (task : Task) (tasks : List Task) (replies : List Reply) (outcomes : List Learnt) → TaskFits links task → task_ask task replies ≡ None → newest (packets_by request.chan) (outcome_by task replies ++ outcomes) ≡ or_before (learnt_by request.chan (task ∷ tasks) replies) (newest (packets_by request.chan) outcomes)
unfolding newest
tells-learnt links request (Opens own) tasks replies outcomes fits over = by (verdict_of own replies) where
  by : (verdict : Option Outcome) → newest (packets_by request.chan) (settled_as own verdict ++ outcomes) ≡ newest (packets_by request.chan) outcomes
  by None = refl
  by (Some outcome) = refl
tells-learnt links request (Sends link (Some chan) count gap size) tasks (Is.Planned clock ∷ replies) outcomes fits over = refl
tells-learnt links request (Moves old new gap size) tasks (first ∷ []) outcomes fits over =
    let none = some-left old new gap size first fits.of_new.route.least over in
    rw none (ap (λ b. or_before (packets_if b gap size) (newest (packets_by request.chan) outcomes)) (and-false (is_that request.chan new.chan)))
tells-learnt links request _ tasks _ outcomes fits over = refl

-- ---- one reply more

-- a release past the first hop changes nothing of what is learnt
rest-learnt : (chan : ChanNo) (old new : Request) (gap size : ℕ) (tasks : List Task) (replies : List Reply) (reply : Reply) (told : Shifted) (made : ℕ) → stage_after replies ≡ Releasing told made → learnt_by chan (Moves old new gap size ∷ tasks) (replies ++ reply ∷ []) ≡ learnt_by chan (Moves old new gap size ∷ tasks) replies
rest-learnt chan old new gap size tasks [] reply told made stage = cc
rest-learnt chan old new gap size tasks (first ∷ []) reply told made stage =
    elim (cases_Bool (nat_eq (shifted_in first) 0)) [
      | inl none ↦ rw none (ap (λ b. packets_if b gap size) (and-false (is_that chan new.chan)))
      | inr some ↦ absurd (let clash : Joining (told_by first) ≡ Releasing told made = rw some at stage in cc)
    ]
rest-learnt chan old new gap size tasks (first ∷ second ∷ replies) reply told made stage = refl

-- the link that a send asks
abbrev asks_of : Task → Option LinkNo
asks_of (Sends link chan count gap size) = Some link
asks_of task = None

module _ (network : Network) (request : Request) (owner : ℕ) (first : HopAt network request 0) (fits : NetworkFits network) (all : AllOwned network) (sound : RequestFits network.links request) (full : OwnedFully network request owner) where
  -- what is learnt with one reply more is what the run tells
  abbrev GoesOn : List Done → Done → Task → List Task → List Reply → List Learnt → Type 0
  GoesOn past done task tasks replies outcomes =
      known_packets request.chan (learnt_by request.chan (task ∷ tasks) replies) outcomes ≡ last_at network request first past → known_packets request.chan (learnt_by request.chan (task ∷ tasks) (replies ++ done.reply ∷ [])) outcomes ≡ last_at network request first (done ∷ past)

  -- an ask that submits nothing on the channel
  still : (past : List Done) (done : Done) (task : Task) (tasks : List Task) (replies : List Reply) (outcomes : List Learnt) → IsUnsent (channel_number request.chan) done.ask → learnt_by request.chan (task ∷ tasks) (replies ++ done.reply ∷ []) ≡ learnt_by request.chan (task ∷ tasks) replies → GoesOn past done task tasks replies outcomes
  still past done task tasks replies outcomes other same known = ap (λ learnt. known_packets request.chan learnt outcomes) same ∙ known ∙ sym (unsent-same network request first done past other)

  -- a submit of packets of this gap and size on the channel, at its first hop
  sent-last : (past : List Done) (done : Done) (chan : ChanNo) (count gap size : ℕ) → link_number done.link ≡ link_number first.hop.link → done.ask ≡ Submit chan count gap size → is_that request.chan chan ≡ true → (clock : ℕ) → done.reply ≡ Is.Planned clock → last_at network request first (done ∷ past) ≡ record { gap = gap; size = size }
  sent-last past done chan count gap size on asked own clock planned =
      entry-plans network request first done past on
      ∙ ap (λ a. last_with (channel_number request.chan) (last_at network request first past) a done.reply) asked
      ∙ ap (last_with (channel_number request.chan) (last_at network request first past) (Submit chan count gap size)) planned
      ∙ rw own refl

  -- one that isn't planned
  unplanned-last : (past : List Done) (done : Done) (chan : ChanNo) (count gap size : ℕ) → done.ask ≡ Submit chan count gap size → ((was : Packets) → last_with (channel_number request.chan) was (Submit chan count gap size) done.reply ≡ was) → last_at network request first (done ∷ past) ≡ last_at network request first past
  unplanned-last past done chan count gap size asked same =
      still-last network request first done past (λ was. ap (λ a. last_with (channel_number request.chan) was a done.reply) asked ∙ same was)

  -- a send on the channel
  send-goes : (past : List Done) (done : Done) (link : LinkNo) (chan : ChanNo) (count gap size : ℕ) (tasks : List Task) (outcomes : List Learnt) → OwnTask request (Sends link (Some chan) count gap size) → task_ask (Sends link (Some chan) count gap size) [] ≡ Some (done.link, done.ask) → GoesOn past done (Sends link (Some chan) count gap size) tasks [] outcomes
  send-goes past done link chan count gap size tasks outcomes names asks known =
      elim (cases_Bool (is_that request.chan chan)) [
        | inr off ↦ by-other off done.reply refl
        | inl own ↦ by-own own (names (eqb-true (channel_number chan) (channel_number request.chan) own)) done.reply refl
      ] where
        once : done.ask ≡ Submit chan count gap size
        once = sym (once-asked link (Submit chan count gap size) [] done.link done.ask asks).is

        other-last : is_that request.chan chan ≡ false → last_at network request first (done ∷ past) ≡ last_at network request first past
        other-last off = unsent-same network request first done past (subst (IsUnsent (channel_number request.chan)) (sym once) (eqb-false (channel_number chan) (channel_number request.chan) off))

        by-other : is_that request.chan chan ≡ false → (reply : Reply) → done.reply ≡ reply → known_packets request.chan (learnt_by request.chan (Sends link (Some chan) count gap size ∷ tasks) (done.reply ∷ [])) outcomes ≡ last_at network request first (done ∷ past)
        by-other off reply is = ap (λ learnt. known_packets request.chan learnt outcomes) (ap (λ r. learnt_by request.chan (Sends link (Some chan) count gap size ∷ tasks) (r ∷ [])) is ∙ silent reply) ∙ known ∙ sym (other-last off) where
          silent : (r : Reply) → learnt_by request.chan (Sends link (Some chan) count gap size ∷ tasks) (r ∷ []) ≡ None
          silent (Is.Planned clock) = rw off refl
          silent _ = refl

        unplanned : (reply : Reply) → done.reply ≡ reply → learnt_by request.chan (Sends link (Some chan) count gap size ∷ tasks) (reply ∷ []) ≡ None → ((was : Packets) → last_with (channel_number request.chan) was (Submit chan count gap size) reply ≡ was)
            → known_packets request.chan (learnt_by request.chan (Sends link (Some chan) count gap size ∷ tasks) (done.reply ∷ [])) outcomes ≡ last_at network request first (done ∷ past)
        unplanned reply is none same =
            ap (λ learnt. known_packets request.chan learnt outcomes) (ap (λ r. learnt_by request.chan (Sends link (Some chan) count gap size ∷ tasks) (r ∷ [])) is ∙ none) ∙ known
            ∙ sym (unplanned-last past done chan count gap size once (λ was. ap (last_with (channel_number request.chan) was (Submit chan count gap size)) is ∙ same was))

        by-own : is_that request.chan chan ≡ true → IsSendOn request (Sends link (Some chan) count gap size) → (reply : Reply) → done.reply ≡ reply → known_packets request.chan (learnt_by request.chan (Sends link (Some chan) count gap size ∷ tasks) (done.reply ∷ [])) outcomes ≡ last_at network request first (done ∷ past)
        by-own own send (Is.Planned clock) is =
            (let at : link ≡ send.hop.link = same_Some link send.hop.link (ap asks_of send.is) in
            let hop : send.hop ≡ first.hop = same_Some send.hop first.hop (sym send.stands ∙ first.stands) in
            let on : link_number done.link ≡ link_number first.hop.link = ap link_number (sym (once-asked link (Submit chan count gap size) [] done.link done.ask asks).at) ∙ ap link_number at ∙ ap link_of hop in
            ap (λ r. known_packets request.chan (learnt_by request.chan (Sends link (Some chan) count gap size ∷ tasks) (r ∷ [])) outcomes) is
            ∙ ap (λ b. known_packets request.chan (packets_if b gap size) outcomes) own ∙ sym (sent-last past done chan count gap size on once own clock is))
        by-own own send reply is = unplanned reply is refl (λ was. refl)

  -- the submit of a move
  join-goes : (past : List Done) (done : Done) (old new : Request) (gap size : ℕ) (tasks : List Task) (outcomes : List Learnt) (reply : Reply) → nat_eq (shifted_in reply) 0 ≡ false → OwnTask request (Moves old new gap size) → HopAsked new.route 0 done.link → done.ask ≡ Submit new.chan (shifted_in reply) gap size → ((clock : ℕ) × (done.reply ≡ Is.Planned clock))
      → GoesOn past done (Moves old new gap size) tasks (reply ∷ []) outcomes
  join-goes past done old new gap size tasks outcomes reply some names at is planned known =
      elim (cases_Bool (is_that request.chan new.chan)) [
        | inl own ↦
            (let same : new ≡ request = names.joins (eqb-true (channel_number new.chan) (channel_number request.chan) own) in
            let hop : at.hop ≡ first.hop = same_Some at.hop first.hop (sym at.stands ∙ ap (λ (r : Request). slice_get r.route 0) same ∙ first.stands) in
            let on : link_number done.link ≡ link_number first.hop.link = ap link_number at.at ∙ ap link_of hop in
            rw (own, some) (sym (sent-last past done new.chan (shifted_in reply) gap size on is own planned.0 planned.1)))
        | inr off ↦
            (let other : IsUnsent (channel_number request.chan) done.ask = subst (IsUnsent (channel_number request.chan)) (sym is) (eqb-false (channel_number new.chan) (channel_number request.chan) off) in
            rw off (known ∙ sym (unsent-same network request first done past other)))
      ]

  task-goes : (script : List Task) (past : List Done) (done : Done) (task : Task) (tasks : List Task) (replies : List Reply) (outcomes : List Learnt) → OwnStep network owner script past done task tasks replies outcomes → OwnTask request task → GoesOn past done task tasks replies outcomes
  task-goes script past done (Opens own) tasks replies outcomes step names = still past done (Opens own) tasks replies outcomes (setup-unsent own replies done.link done.ask (channel_number request.chan) step.asks) refl
  task-goes script past done (Sends link None count gap size) tasks replies outcomes step names =
      still past done (Sends link None count gap size) tasks replies outcomes (subst (IsUnsent (channel_number request.chan)) (once-asked link (packets_ask None count gap size) replies done.link done.ask step.asks).is tt) refl
  task-goes script past done (Sends link (Some chan) count gap size) tasks (reply ∷ replies) outcomes step names = absurd (let clash : None ≡ Some (done.link, done.ask) = step.asks in cc)
  task-goes script past done (Sends link (Some chan) count gap size) tasks [] outcomes step names = send-goes past done link chan count gap size tasks outcomes names step.asks
  task-goes script past done (Closes own) tasks replies outcomes step names =
      still past done (Closes own) tasks replies outcomes (of-hop (IsUnsent (channel_number request.chan)) (slice_get own.route (length replies)) (λ hop. Release own.chan _) done.link done.ask (λ hop. tt) step.asks) refl
  task-goes script past done (Moves old new gap size) tasks replies outcomes step names = by-ask (move-asks (move_between old new gap size) replies done.link done.ask step.asks) where
    by-ask : MoveAsks (move_between old new gap size) replies done.link done.ask → GoesOn past done (Moves old new gap size) tasks replies outcomes
    by-ask (AsksFirst none at release) = still past done (Moves old new gap size) tasks replies outcomes (subst (IsUnsent (channel_number request.chan)) (sym release) tt) (ap (λ rs. learnt_by request.chan (Moves old new gap size ∷ tasks) (rs ++ done.reply ∷ [])) none ∙ sym (ap (learnt_by request.chan (Moves old new gap size ∷ tasks)) none))
    by-ask (AsksRest told made stage at release) = still past done (Moves old new gap size) tasks replies outcomes (subst (IsUnsent (channel_number request.chan)) (sym release) tt) (rest-learnt request.chan old new gap size tasks replies done.reply told made stage)
    by-ask (AsksSubmit reply one some at submit) =
        (let plans = moves-plan network owner script past done fits all old new gap size tasks replies outcomes (shifted_in reply) step submit in
        subst (λ rs. GoesOn past done (Moves old new gap size) tasks rs outcomes) (sym one) (join-goes past done old new gap size tasks outcomes reply some names at submit (_, plans.0)))

  own-goes : (script : List Task) (past : List Done) (done : Done) (task : Task) (tasks : List Task) (replies : List Reply) (outcomes : List Learnt) → OwnStep network owner script past done task tasks replies outcomes → GoesOn past done task tasks replies outcomes
  own-goes script past done task tasks replies outcomes step = task-goes script past done task tasks replies outcomes step (own-task network request owner script past done task tasks replies outcomes full step)

  -- ---- every run

  abbrev LastBy : List Done → Standing → Type 0
  LastBy run at = LastAt request (last_at network request first run) at

  -- what the notes tell of the last packets
  abbrev TellsLast : List Done → List Learnt → Type 0
  TellsLast run outcomes = packets_in (newest (packets_by request.chan) outcomes) ≡ last_at network request first run

  none-last : TellsLast [] []
  unfolding newest part_of last_planned
  none-last = refl

  last-keeps : (script : List Task) → KeptBySteps network owner script (λ run outcomes tasks. TellsLast run outcomes) LastBy
  last-keeps script = record {
    first = none-last;
    begins = λ run outcomes tasks known. last-begun request (last_at network request first run) outcomes tasks known;
    off = λ past done at run next other was. subst (λ n. LastAt request n at) (sym (unsent-same network request first done past (off-unsent (channel_number request.chan) done.ask (others-off network request owner past done full next other)))) was;
    goes = λ past done task rest replies outcomes to step more was. record { known = own-goes script past done task rest replies outcomes step was.known; first = was.first };
    over = λ past done task rest replies outcomes step none was. ap packets_in (tells-learnt network.links request task rest (replies ++ done.reply ∷ []) outcomes (step-stands network owner script past done task rest replies outcomes fits step).tasks.0 none) ∙ own-goes script past done task rest replies outcomes step was.known;
  }

  run-last : (run : List Done) (script : List Task) → IsRun network run → slice_get network.scripts owner ≡ Some script → LastBy run (standing script (replies_to owner run))
  run-last run script is found = each-run network owner script found (λ past outcomes tasks. TellsLast past outcomes) LastBy (last-keeps script) run is

pub moves-take-last : EveryMoveTakesTheLast
unfolding last_packets
moves-take-last network request new owner gap size first run tasks rest fits all sound full is found move =
    let at = run-last network request owner first fits all sound full run tasks is found in
    let fit : Each (TaskFits network.links) (Moves request new gap size ∷ rest) = subst (Each (TaskFits network.links)) move ((run-stands network run fits is).callers owner tasks found).tasks in
    let taken = subst (λ ts. FirstLast ts (standing tasks (replies_to owner run)).outcomes) move at.first in
    let silent = silent-move new request gap size rest (standing tasks (replies_to owner run)).replies (λ same. fit.0.apart (sym same)) in
    sym at.known ∙ ap (λ ts. known_packets request.chan (learnt_by request.chan ts (standing tasks (replies_to owner run)).replies) (standing tasks (replies_to owner run)).outcomes) move
    ∙ ap (λ learnt. known_packets request.chan learnt (standing tasks (replies_to owner run)).outcomes) silent ∙ taken
  where
    silent-move : (new request : Request) (gap size : ℕ) (rest : List Task) (replies : List Reply) → channel_number new.chan ≢ channel_number request.chan → learnt_by request.chan (Moves request new gap size ∷ rest) replies ≡ None
    silent-move new request gap size rest [] other = refl
    silent-move new request gap size rest (one ∷ []) other = refl
    silent-move new request gap size rest (one ∷ two ∷ replies) other = rw (ne_eqb (channel_number new.chan) (channel_number request.chan) other) refl
