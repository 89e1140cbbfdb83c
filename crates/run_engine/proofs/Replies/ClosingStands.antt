-- Where the owner of a request stands on its way from setting it up to closing it, between two tasks and in the task under way. An entry
-- of another channel leaves that; as a task begins, and as it is over, the owner stands at the next place.
use Rattle.call_script.proofs.OneOwner.{closes-sends, sends-used}
use Rattle.channel_move.specs.declared.mover.Stage.{Stage}
use Rattle.link_steps.specs.declared.replies.Reply.TheVariants as Is
use Rattle.call_script.specs.Scripts.{Settles as Settled_as}
use Rattle.std.proofs.Common.{◌≡◌, ◌≢◌, ◌⊎◌, ℕ, ◌≤◌, Bool, true, false, List, [], ◌∷◌, ◌++◌, length, Option, Some, refl, sym, ap, ◌∙◌, subst, inl, inr}
use Rattle.run_engine.proofs.Words.{ChanNo, LinkNo, first_told, stage_after, Leaving, Joining, Releasing, Shifted, UsedOnce, ClosesOnce, IsSendOn, IsMoveFrom, IsMoveOnto, TaskOff, SendsOnce, FullScript, newest, ready, planned_as, moved_as, Learnt, is_established, takes_step, from_step, settled_as, outcome_by, IsUnsent, NoneSent, eq-eqb, ne_eqb, channel_number, link_number, Ask, Submit, Reply, Each, Outcome, Denies, next_ask, progress_of, Request, Done, NetworkFits, Task, Opens, Closes, Network, part_of, IsRun, IsOff, clock_of, scan_of, after, held_by, HopAt}
use Rattle.setup_protocol.specs.Laws.{is_accepted}
use Rattle.setup_protocol.proofs.HopAsks.{of-setup}
use Rattle.setup_protocol.proofs.HopHolds.{IsComm}
use Rattle.run_engine.proofs.Channels.RowsFollow.{held_at_hop, Settles}
use Rattle.run_engine.proofs.Replies.RunGoes.{held-later, open-comm}
use Rattle.run_engine.proofs.Tasks.TaskAsks.{ready-off}
use Rattle.run_engine.proofs.Runs.RunLegal.{by-part}
use Rattle.channel_laws.proofs.TermsAfter.{held-submitted}
use Rattle.run_engine.proofs.Runs.EachRun.{from-step-by}
use Rattle.std.proofs.Math.Bool.{and-false}
use Rattle.run_engine.proofs.Tasks.TaskNotes.{once-over}

-- ---- where the owner stands

abbrev pub AllComm : Network → Request → List ℕ → ℕ → List Done → Type 0
AllComm network request levels from run = (i : ℕ) (at : HopAt network request i) → from ≤ i → IsComm Some request levels i (held_at_hop network request i at run)

-- no submit on the channel was asked
abbrev pub Unsent : Request → List Done → Type 0
Unsent request run = (n : ℕ) → NoneSent (channel_number request.chan) (part_of n run)

-- how many hops of the channel that is left have replied to a move
abbrev pub left_in : Stage → ℕ
left_in Leaving = 0
left_in (Joining told) = 1
left_in (Releasing told made) = made

abbrev pub left_by : List Reply → ℕ
left_by replies = left_in (stage_after replies)

-- the submit of a move isn't asked yet
abbrev pub IsUnjoined : List Reply → Type 0
IsUnjoined replies = (replies ≡ []) ⊎ ((first : Reply) × (replies ≡ first ∷ []))

-- between two tasks: the request isn't opened yet; or its channel isn't established; or all hops hold it, before or after something was
-- submitted on it; or no task names it any more
pub data BetweenTasks (network : Network) (request : Request) (run : List Done) (established : Bool) (tasks : List Task) : Type 0 where
  Early : FullScript request tasks → established ≡ false → Unsent request run → BetweenTasks network request run established tasks
  Denied : UsedOnce request tasks → established ≡ false → BetweenTasks network request run established tasks
  Fresh : (levels : List ℕ) → UsedOnce request tasks → AllComm network request levels 0 run → Unsent request run → BetweenTasks network request run established tasks
  Open : (levels : List ℕ) → SendsOnce request tasks → AllComm network request levels 0 run → BetweenTasks network request run established tasks
  Over : Each (TaskOff (channel_number request.chan)) tasks → BetweenTasks network request run established tasks

-- a task under way: it names another channel, and leaves what is so between two tasks; or it is one of the request's own
pub data UnderWay (network : Network) (request : Request) (run : List Done) (task : Task) (rest : List Task) (replies : List Reply) (established : Bool) : Type 0 where
  Aside : TaskOff (channel_number request.chan) task → BetweenTasks network request run established rest → UnderWay network request run task rest replies established
  Opening : task ≡ Opens request → UsedOnce request rest → established ≡ false → Unsent request run → UnderWay network request run task rest replies established
  Sending : (levels : List ℕ) → IsSendOn request task → SendsOnce request rest → AllComm network request levels 0 run → UnderWay network request run task rest replies established
  Closing : (levels : List ℕ) → task ≡ Closes request → Each (TaskOff (channel_number request.chan)) rest → AllComm network request levels (length replies) run → UnderWay network request run task rest replies established
  MovingFrom : (levels : List ℕ) → IsMoveFrom request task → ClosesOnce request rest → AllComm network request levels (left_by replies) run → UnderWay network request run task rest replies established
  MovingOnto : (levels : List ℕ) → IsMoveOnto request task → SendsOnce request rest → AllComm network request levels 0 run → (IsUnjoined replies → Unsent request run) → UnderWay network request run task rest replies established

abbrev pub ClosesAt : Network → Request → List Done → List Task → List Reply → Bool → Type 0
ClosesAt network request run [] replies established = Unit {0}
ClosesAt network request run (task ∷ rest) replies established = UnderWay network request run task rest replies established

-- ---- an entry that names another channel

pub comm-later : (network : Network) (request : Request) (levels : List ℕ) (from : ℕ) (done : Done) (past : List Done) → NetworkFits network → IsRun network past → IsOff (channel_number request.chan) done.ask → AllComm network request levels from past → AllComm network request levels from (done ∷ past)
comm-later network request levels from done past fits run off comm i at upto =
    (let own = comm i at upto in subst (IsComm Some request levels i) (sym (held-later network request done past fits run i at off (open-comm request levels i (held_at_hop network request i at past) own))) own)

-- a submit on the channel leaves what is held
pub send-later : (network : Network) (request : Request) (done : Done) (past : List Done) (count gap size : ℕ) (levels : List ℕ) → done.ask ≡ Submit request.chan count gap size → AllComm network request levels 0 past → AllComm network request levels 0 (done ∷ past)
unfolding scan_of
send-later network request done past count gap size levels is comm i at from =
    by-part (λ h. IsComm Some request levels i (held_by request.chan (scan_of at.link.shape h).rows)) (link_number at.hop.link) done past
    (λ on. subst (IsComm Some request levels i) (sym (ap (λ a. held_by request.chan (after at.link.shape (clock_of (part_of (link_number at.hop.link) past)) (scan_of at.link.shape (part_of (link_number at.hop.link) past)) a done.reply).rows) is ∙ held-submitted at.link.shape request.chan request.chan (clock_of (part_of (link_number at.hop.link) past)) (scan_of at.link.shape (part_of (link_number at.hop.link) past)) count gap size done.reply)) (comm i at from)) (λ off. comm i at from)

pub off-unsent : (c : ℕ) (ask : Ask) → IsOff c ask → IsUnsent c ask
off-unsent c (Submit chan count gap size) off = off
off-unsent c _ off = tt

-- nor is an ask of the request's setup a submit
pub setup-unsent : (request : Request) (replies : List Reply) (to : LinkNo) (ask : Ask) (c : ℕ) → next_ask request replies ≡ Some (to, ask) → IsUnsent c ask
setup-unsent request replies to ask c same = of-setup (IsUnsent c) request (progress_of request replies) to ask (λ offers reach. tt) tt (λ levels place. tt) same

pub unsent-more : (request : Request) (done : Done) (past : List Done) → IsUnsent (channel_number request.chan) done.ask → Unsent request past → Unsent request (done ∷ past)
unsent-more request done past none before n =
    by-part (NoneSent (channel_number request.chan)) n done past (λ on. (none, before n)) (λ off. before n)

pub unsent-later : (request : Request) (done : Done) (past : List Done) → IsOff (channel_number request.chan) done.ask → Unsent request past → Unsent request (done ∷ past)
unsent-later request done past off before = unsent-more request done past (off-unsent (channel_number request.chan) done.ask off) before

module _ (network : Network) (request : Request) (done : Done) (past : List Done) (fits : NetworkFits network) (run : IsRun network past) (off : IsOff (channel_number request.chan) done.ask) where
  pub between-later : (established : Bool) (tasks : List Task) → BetweenTasks network request past established tasks → BetweenTasks network request (done ∷ past) established tasks
  between-later established tasks (Early script none unsent) = Early script none (unsent-later request done past off unsent)
  between-later established tasks (Denied used none) = Denied used none
  between-later established tasks (Fresh levels used comm unsent) = Fresh levels used (comm-later network request levels 0 done past fits run off comm) (unsent-later request done past off unsent)
  between-later established tasks (Open levels sends comm) = Open levels sends (comm-later network request levels 0 done past fits run off comm)
  between-later established tasks (Over others) = Over others

  pub closes-later : (tasks : List Task) (replies : List Reply) (established : Bool) → ClosesAt network request past tasks replies established → ClosesAt network request (done ∷ past) tasks replies established
  closes-later [] replies established was = tt
  closes-later (task ∷ rest) replies established (Aside other left) = Aside other (between-later established rest left)
  closes-later (task ∷ rest) replies established (Opening own used none unsent) = Opening own used none (unsent-later request done past off unsent)
  closes-later (task ∷ rest) replies established (Sending levels own sends comm) = Sending levels own sends (comm-later network request levels 0 done past fits run off comm)
  closes-later (task ∷ rest) replies established (Closing levels own others comm) = Closing levels own others (comm-later network request levels (length replies) done past fits run off comm)
  closes-later (task ∷ rest) replies established (MovingFrom levels own closes comm) = MovingFrom levels own closes (comm-later network request levels (left_by replies) done past fits run off comm)
  closes-later (task ∷ rest) replies established (MovingOnto levels own sends comm unsent) = MovingOnto levels own sends (comm-later network request levels 0 done past fits run off comm) (λ early. unsent-later request done past off (unsent early))

-- ---- the outcomes

established-skip : (request r : Request) (outcome : Outcome) (outcomes : List Learnt) → channel_number r.chan ≢ channel_number request.chan → is_established request.chan (Settled_as r.chan outcome ∷ outcomes) ≡ is_established request.chan outcomes
unfolding is_established newest
established-skip request r outcome outcomes other = rw (ne_eqb (channel_number r.chan) (channel_number request.chan) other) refl

pub established-own : (request : Request) (outcome : Outcome) (outcomes : List Learnt) → is_established request.chan (Settled_as request.chan outcome ∷ outcomes) ≡ is_accepted outcome
unfolding is_established newest
established-own request outcome outcomes = rw (eq-eqb (channel_number request.chan) (channel_number request.chan) refl) refl

-- packets that are planned change nothing
pub planned-established : (chan : ChanNo) (own : Option ChanNo) (gap size : ℕ) (replies : List Reply) (outcomes : List Learnt) → is_established chan (planned_as own gap size replies ++ outcomes) ≡ is_established chan outcomes
unfolding is_established newest
planned-established chan (Some own) gap size (Is.Planned clock ∷ replies) outcomes = refl
planned-established chan _ gap size _ outcomes = refl

-- a move from the channel leaves it
pub left-established : (request new : Request) (gap size : ℕ) (told : Shifted) (outcomes : List Learnt) → is_established request.chan (moved_as request new gap size (Some told) ++ outcomes) ≡ false
unfolding is_established newest
left-established request new gap size told outcomes = rw (eq-eqb (channel_number request.chan) (channel_number request.chan) refl) refl

-- a task of another channel changes nothing
off-established : (request : Request) (task : Task) (replies : List Reply) (outcomes : List Learnt) → TaskOff (channel_number request.chan) task → is_established request.chan (outcome_by task replies ++ outcomes) ≡ is_established request.chan outcomes
unfolding is_established newest
off-established request task replies outcomes off =
    once-over (λ notes. is_established request.chan notes ≡ is_established request.chan outcomes) task replies outcomes
    (λ r outcome is told. established-skip request r outcome outcomes (subst (TaskOff (channel_number request.chan)) is off))
    (λ link chan count gap size clock rest is told. refl)
    (λ old new gap size told is first. rw (ne_eqb (channel_number old.chan) (channel_number request.chan) (subst (TaskOff (channel_number request.chan)) is off).0) refl)
    refl

-- ---- the next task that takes a step

pub each-sends : (request : Request) (tasks : List Task) → Each (TaskOff (channel_number request.chan)) tasks → SendsOnce request tasks
each-sends request [] each = tt
each-sends request (task ∷ tasks) each = inl (each.0, each-sends request tasks each.1)

-- what follows a task is less of a script
sends-rest : (request : Request) (task : Task) (tasks : List Task) → SendsOnce request (task ∷ tasks) → SendsOnce request tasks
sends-rest request task tasks (inl off) = off.1
sends-rest request task tasks (inr (inl own)) = own.1
sends-rest request task tasks (inr (inr (inl own))) = each-sends request tasks own.1
sends-rest request task tasks (inr (inr (inr own))) = closes-sends request tasks own.1

used-rest : (request : Request) (task : Task) (tasks : List Task) → UsedOnce request (task ∷ tasks) → UsedOnce request tasks
used-rest request task tasks (inl off) = off.1
used-rest request task tasks (inr (inl own)) = sends-used request tasks own.1
used-rest request task tasks (inr (inr used)) = sends-used request tasks (sends-rest request task tasks (inr used))

module _ (network : Network) (request : Request) (run : List Done) (outcomes : List Learnt) where
  abbrev pub Before : List Task → Type 0
  Before tasks = BetweenTasks network request run (is_established request.chan outcomes) tasks

  abbrev pub Begun : Task → List Task → Type 0
  Begun task rest = UnderWay network request run task rest [] (is_established request.chan outcomes)

  -- where the channel isn't established, its tasks take no step
  silent : (task : Task) {own : Task} → takes_step outcomes task ≡ true → task ≡ own → takes_step outcomes own ≡ false → ⊥
  silent task takes is passed = (let clash : true ≡ false = sym takes ∙ ap (takes_step outcomes) is ∙ passed in cc)

  -- a first use of the channel, and a later one
  uses : (levels : List ℕ) (task : Task) (rest : List Task) → (IsSendOn request task × SendsOnce request rest) ⊎ (((task ≡ Closes request) × Each (TaskOff (channel_number request.chan)) rest) ⊎ (IsMoveFrom request task × ClosesOnce request rest)) → AllComm network request levels 0 run → Begun (ready outcomes task) rest
  uses levels task rest (inl own) comm = Sending levels (record { hop = own.0.hop; count = own.0.count; gap = own.0.gap; size = own.0.size; stands = own.0.stands; is = ap (ready outcomes) own.0.is }) own.1 comm
  uses levels task rest (inr (inl own)) comm = Closing levels (ap (ready outcomes) own.0) own.1 comm
  uses levels task rest (inr (inr own)) comm = MovingFrom levels (record { new = own.0.new; gap = _; size = _; is = ap (ready outcomes) own.0.is; other = own.0.other }) own.1 comm

  begins : (task : Task) (rest : List Task) → takes_step outcomes task ≡ true → Before (task ∷ rest) → Begun (ready outcomes task) rest
  begins task rest takes (Early (inl off) none unsent) = Aside (ready-off (channel_number request.chan) outcomes task off.0) (Early off.1 none unsent)
  begins task rest takes (Early (inr own) none unsent) = Opening (ap (ready outcomes) own.0) own.1 none unsent
  begins task rest takes (Denied (inl off) none) = Aside (ready-off (channel_number request.chan) outcomes task off.0) (Denied off.1 none)
  begins task rest takes (Denied (inr (inl own)) none) = absurd (silent task takes own.0.is (rw none (and-false (is_established own.0.old.chan outcomes))))
  begins task rest takes (Denied (inr (inr (inl own))) none) = absurd (silent task takes own.0.is none)
  begins task rest takes (Denied (inr (inr (inr (inl own)))) none) = absurd (silent task takes own.0 none)
  begins task rest takes (Denied (inr (inr (inr (inr own)))) none) = absurd (silent task takes own.0.is (rw none refl))
  begins task rest takes (Fresh levels (inl off) comm unsent) = Aside (ready-off (channel_number request.chan) outcomes task off.0) (Fresh levels off.1 comm unsent)
  begins task rest takes (Fresh levels (inr (inl own)) comm unsent) = MovingOnto levels (record { old = own.0.old; gap = _; size = _; is = ap (ready outcomes) own.0.is; other = own.0.other }) own.1 comm (λ early. unsent)
  begins task rest takes (Fresh levels (inr (inr own)) comm unsent) = uses levels task rest own comm
  begins task rest takes (Open levels (inl off) comm) = Aside (ready-off (channel_number request.chan) outcomes task off.0) (Open levels off.1 comm)
  begins task rest takes (Open levels (inr own) comm) = uses levels task rest own comm
  begins task rest takes (Over others) = Aside (ready-off (channel_number request.chan) outcomes task others.0) (Over others.1)

  passes : (task : Task) (rest : List Task) → takes_step outcomes task ≡ false → Before (task ∷ rest) → Before rest
  passes task rest over (Early (inl off) none unsent) = Early off.1 none unsent
  passes task rest over (Early (inr own) none unsent) = absurd (let clash : true ≡ false = sym (ap (takes_step outcomes) own.0) ∙ over in cc)
  passes task rest over (Denied used none) = Denied (used-rest request task rest used) none
  passes task rest over (Fresh levels used comm unsent) = Fresh levels (used-rest request task rest used) comm unsent
  passes task rest over (Open levels sends comm) = Open levels (sends-rest request task rest sends) comm
  passes task rest over (Over others) = Over others.1

  pub next-begins : (tasks : List Task) → Before tasks → ClosesAt network request run (from_step outcomes tasks) [] (is_established request.chan outcomes)
  next-begins tasks left = from-step-by Before (λ ts. ClosesAt network request run ts [] (is_established request.chan outcomes)) outcomes (λ over. tt) begins passes tasks left

-- ---- a task that is over

module _ (network : Network) (request : Request) (run : List Done) (task : Task) (rest : List Task) (replies : List Reply) (outcomes : List Learnt) where
  -- its channel is established now, or not
  abbrev pub After : Type 0
  After = BetweenTasks network request run (is_established request.chan (outcome_by task replies ++ outcomes)) rest

  settled : task ≡ Opens request → UsedOnce request rest → Unsent request run → Settles network request replies run → After
  settled own used unsent settles = by-verdict settles.accepted refl where
    by-verdict : (b : Bool) → settles.accepted ≡ b → After
    by-verdict true is = Fresh settles.levels used (λ i at from. settles.comm is i at) unsent
    by-verdict false is =
        (let verdict = settles.denied_is is in
        Denied used (ap (λ t. is_established request.chan (outcome_by t replies ++ outcomes)) own ∙ ap (λ v. is_established request.chan (settled_as request v ++ outcomes)) verdict.1 ∙ established-own request (Denies verdict.0) outcomes))

  pub task-over : UnderWay network request run task rest replies (is_established request.chan outcomes) → (task ≡ Opens request → Settles network request replies run) → ((told : Shifted) × (first_told replies ≡ Some told)) → After
  task-over (Aside other left) settles told = subst (λ b. BetweenTasks network request run b rest) (sym (off-established request task replies outcomes other)) left
  task-over (Opening own used none unsent) settles told = settled own used unsent (settles own)
  task-over (Sending levels own sends comm) settles told = Open levels sends comm
  task-over (Closing levels own others comm) settles told = Over others
  task-over (MovingFrom levels own closes comm) settles told =
      Denied (sends-used request rest (closes-sends request rest closes))
      (ap (λ t. is_established request.chan (outcome_by t replies ++ outcomes)) own.is ∙ ap (λ t. is_established request.chan (moved_as request own.new own.gap own.size t ++ outcomes)) told.1 ∙ left-established request own.new own.gap own.size told.0 outcomes)
  task-over (MovingOnto levels own sends comm unsent) settles told = Open levels sends comm
