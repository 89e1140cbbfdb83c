-- Once a move has left a channel, the channel's first hop has taken as many packets as were kept, and takes no more.
use Rattle.std.proofs.Common.{◌≡◌, ℕ, true, false, List, [], ◌∷◌, ◌++◌, Option, Some, None, refl, sym, ap, ◌∙◌, subst, inl, inr}
use Rattle.run_engine.proofs.Words.{cases_Bool, eqb-true, and_parts, same_Some, slice_get, nat_eq, if◌then◌else◌, channel_number, ChanNo, told_by, first_told, Shifted, Reply, RequestFits, Outcome, first_count, Request, NetworkFits, OwnedFully, Learnt, Settles, PlannedOn, MovedTo, Standing, is_that, newest, is_established, outcome_in, takes_step, ready, from_step, begun, outcome_by, standing, first_ask, moved_by, moved_off, Network, Task, Opens, Moves, replies_to, Done, IsMild, IsRun, EveryMoveKeeps, HopAt, ChannelAsked}
use Rattle.interleave_core.proofs.Channels.ChainLaw.{leaves-frozen}
use Rattle.run_engine.proofs.Channels.ChannelsAt.{packets-numbered}
use Rattle.interleave_core.proofs.Channels.FarHolds.{Frozen, frozen-later}
use Rattle.run_engine.proofs.Replies.RunCloses.{owned-once, others-off, fully-asked}
use Rattle.run_engine.proofs.Replies.RunGoes.{GoesAt, step-goes}
use Rattle.run_engine.proofs.Runs.EachRun.{KeptBySteps, each-run, OwnStep, from-step-by}
use Rattle.run_engine.proofs.Tasks.EachSetup.{Before, Under, After}
use Rattle.run_engine.proofs.Tasks.TaskAsks.{off-mild, mild-tasks}
use Rattle.run_engine.proofs.Tasks.OwnTasks.{OwnTask, own-task}
use Rattle.run_engine.proofs.Replies.OwnerKinds.{request_left, IsLeaving, told-kept}
use Rattle.run_engine.proofs.Keeping.Lookups.{head-same}
use Rattle.run_engine.proofs.Tasks.TaskNotes.{once-over}

-- ---- notes: a channel that was left was accepted

abbrev IsKnown : ChanNo → List Learnt → Type 0
IsKnown chan outcomes = (outcome : Outcome) × (outcome_in chan outcomes ≡ Some outcome)

abbrev NotesSound : List Learnt → Type 0
NotesSound outcomes = (chan : ChanNo) (told : Shifted) → moved_off chan outcomes ≡ Some told → IsKnown chan outcomes

-- the first task takes a step
abbrev FirstTakes : Standing → Type 0
FirstTakes at = (task : Task) (rest : List Task) → at.tasks ≡ task ∷ rest → takes_step at.outcomes task ≡ true

record IsSound (at : Standing) : Type 0 where
  notes : NotesSound at.outcomes
  takes : FirstTakes at

ready-takes : (outcomes : List Learnt) (task : Task) → takes_step outcomes (ready outcomes task) ≡ takes_step outcomes task
ready-takes outcomes (Opens request) = refl
ready-takes outcomes _ = refl

from-takes : (outcomes : List Learnt) (tasks : List Task) (task : Task) (rest : List Task) → from_step outcomes tasks ≡ task ∷ rest → takes_step outcomes task ≡ true
from-takes outcomes tasks = from-step-by (λ left. Unit {0}) (λ ts. (task : Task) (rest : List Task) → ts ≡ task ∷ rest → takes_step outcomes task ≡ true) outcomes (λ none task rest same. absurd (let clash : [] ≡ task ∷ rest = same in cc))
    (λ t left takes none task rest same. ap (takes_step outcomes) (sym (head-same (ready outcomes t) left task rest same)) ∙ ready-takes outcomes t ∙ takes) (λ t left over none. tt) tasks tt

-- an established channel has an outcome
established-known : (chan : ChanNo) (outcomes : List Learnt) → is_established chan outcomes ≡ true → IsKnown chan outcomes
unfolding is_established outcome_in newest
established-known chan [] is = cc
established-known chan (Settles own outcome ∷ outcomes) is =
    elim (cases_Bool (is_that chan own)) [
      | inl on ↦ rw on (outcome, refl)
      | inr off ↦ rw off (established-known chan outcomes (rw off at is))
    ]
established-known chan (MovedTo old new told gap size ∷ outcomes) is =
    elim (cases_Bool (is_that chan old)) [
      | inl on ↦ (let clash : false ≡ true = rw on at is in cc)
      | inr off ↦ established-known chan outcomes (rw off at is)
    ]
established-known chan (_ ∷ outcomes) is = established-known chan outcomes is

-- one note more
settled-sound : (own : ChanNo) (outcome : Outcome) (outcomes : List Learnt) → NotesSound outcomes → NotesSound (Settles own outcome ∷ outcomes)
unfolding moved_off outcome_in newest
settled-sound own outcome outcomes sound chan told moved =
    elim (cases_Bool (is_that chan own)) [
      | inl on ↦ rw on (outcome, refl)
      | inr off ↦ rw off (sound chan told moved)
    ]

planned-sound : (own : ChanNo) (gap size : ℕ) (outcomes : List Learnt) → NotesSound outcomes → NotesSound (PlannedOn own gap size ∷ outcomes)
unfolding moved_off outcome_in newest
planned-sound own gap size outcomes sound chan told moved = sound chan told moved

same-known : (chan own : ChanNo) (outcomes : List Learnt) → is_that chan own ≡ true → IsKnown own outcomes → IsKnown chan outcomes
unfolding outcome_in
same-known chan own outcomes same known = subst (λ n. (outcome : Outcome) × (newest (λ note. settled_at n note) outcomes ≡ Some outcome)) (eqb-true (channel_number own) (channel_number chan) same) known where
  settled_at : ℕ → Learnt → Option Outcome
  settled_at n (Settles c outcome) = if nat_eq (channel_number c) n then Some outcome else None
  settled_at n _ = None

moved-sound : (old new : ChanNo) (own : Shifted) (gap size : ℕ) (outcomes : List Learnt) → is_established old outcomes ≡ true → NotesSound outcomes → NotesSound (MovedTo old new own gap size ∷ outcomes)
unfolding moved_off outcome_in newest
moved-sound old new own gap size outcomes established sound chan told moved =
    elim (cases_Bool (is_that chan old)) [
      | inl on ↦ same-known chan old outcomes on (established-known old outcomes established)
      | inr off ↦ sound chan told (rw off at moved)
    ]

told-sound : (task : Task) (replies : List Reply) (outcomes : List Learnt) → takes_step outcomes task ≡ true → NotesSound outcomes → NotesSound (outcome_by task replies ++ outcomes)
told-sound task replies outcomes takes sound =
    once-over NotesSound task replies outcomes
    (λ r outcome is told. settled-sound r.chan outcome outcomes sound)
    (λ link chan count gap size clock rest is told. planned-sound chan gap size outcomes sound)
    (λ old new gap size told is first. moved-sound old.chan new.chan told gap size outcomes (and_parts (is_established old.chan outcomes) (is_established new.chan outcomes) (ap (takes_step outcomes) (sym is) ∙ takes)).0 sound)
    sound

begun-sound : (outcomes : List Learnt) (tasks : List Task) → NotesSound outcomes → IsSound (begun outcomes tasks)
begun-sound outcomes tasks sound = record { notes = sound; takes = λ task rest same. from-takes outcomes tasks task rest same }

none-moved : NotesSound []
unfolding moved_off newest
none-moved chan told moved = cc

sound-keeps : (network : Network) (owner : ℕ) (script : List Task) → KeptBySteps network owner script (λ run outcomes tasks. NotesSound outcomes) (λ run at. IsSound at)
sound-keeps network owner script = record {
  first = none-moved;
  begins = λ run outcomes tasks sound. begun-sound outcomes tasks sound;
  off = λ past done at run next other sound. sound;
  goes = λ past done task rest replies outcomes to step more sound. record { notes = sound.notes; takes = sound.takes };
  over = λ past done task rest replies outcomes step none sound. told-sound task (replies ++ done.reply ∷ []) outcomes (sound.takes task rest refl) sound.notes;
}

standing-sound : (network : Network) (owner : ℕ) (script : List Task) (run : List Done) → slice_get network.scripts owner ≡ Some script → IsRun network run → IsSound (standing script (replies_to owner run))
standing-sound network owner script run found is = each-run network owner script found (λ past outcomes tasks. NotesSound outcomes) (λ past at. IsSound at) (sound-keeps network owner script) run is

-- ---- which move leaves the channel

-- a move from the channel is the request's
pub move-own : (request old new : Request) (gap size : ℕ) (task : Task) → OwnTask request task → task ≡ Moves old new gap size → channel_number old.chan ≡ channel_number request.chan → IsLeaving request task
move-own request old new gap size task own same chan = ap request_left same ∙ ap Some ((subst (OwnTask request) same own).leaves chan).0

-- ---- what a task's notes tell of moves from the channel

pub data MoveTold (request : Request) (task : Task) (replies : List Reply) (outcomes : List Learnt) (told : Shifted) : Type 0 where
  Was : moved_off request.chan outcomes ≡ Some told → MoveTold request task replies outcomes told
  Now : (old new : Request) (gap size : ℕ) → task ≡ Moves old new gap size → channel_number old.chan ≡ channel_number request.chan → first_told replies ≡ Some told → MoveTold request task replies outcomes told

pub move-told : (request : Request) (task : Task) (replies : List Reply) (outcomes : List Learnt) (told : Shifted) → moved_off request.chan (outcome_by task replies ++ outcomes) ≡ Some told → MoveTold request task replies outcomes told
unfolding moved_off newest
move-told request task replies outcomes told moved =
    once-over (λ notes. newest (moved_by request.chan) notes ≡ Some told → MoveTold request task replies outcomes told) task replies outcomes
    (λ r outcome is settled was. Was was)
    (λ link chan count gap size clock rest is planned was. Was was)
    (λ old new gap size own is first now. elim (cases_Bool (is_that request.chan old.chan)) [
      | inl on ↦ Now old new gap size is (eqb-true (channel_number old.chan) (channel_number request.chan) on) (first ∙ rw on at now)
      | inr off ↦ Was (rw off at now)
    ])
    (λ was. Was was) moved

told-count : (replies : List Reply) (told : Shifted) → first_told replies ≡ Some told → first_count replies ≡ Some told.kept
told-count [] told is = cc
told-count (reply ∷ replies) told is = ap Some (told-kept reply ∙ ap (λ (t : Shifted). t.kept) (same_Some (told_by reply) told is))

-- ---- every run

-- an ask after the setup is mild
asks-mild : (network : Network) (request : Request) (done : Done) (past : List Done) (tasks : List Task) (replies : List Reply) (outcomes : List Learnt) (told : Shifted) → NotesSound outcomes → moved_off request.chan outcomes ≡ Some told → first_ask tasks replies ≡ Some (done.link, done.ask) → GoesAt network request past tasks replies outcomes → IsMild (channel_number request.chan) done.ask
asks-mild network request done past tasks replies outcomes told sound moved asks (Before opened begun quiet none) = absurd (let known = sound request.chan told moved in let clash : None ≡ Some known.0 = sym quiet ∙ known.1 in cc)
asks-mild network request done past tasks replies outcomes told sound moved asks (Under rest is others quiet to more rows) = absurd (let known = sound request.chan told moved in let clash : None ≡ Some known.0 = sym quiet ∙ known.1 in cc)
asks-mild network request done past tasks replies outcomes told sound moved asks (After others after) = mild-tasks (channel_number request.chan) tasks replies done.link done.ask others asks

pub no-moves : (request : Request) (told : Shifted) → moved_off request.chan [] ≡ Some told → ⊥
unfolding moved_off newest
no-moves request told moved = cc

module _ (network : Network) (request : Request) (owner : ℕ) (first : HopAt network request 0) (fits : NetworkFits network) (sound : RequestFits network.links request) (full : OwnedFully network request owner) where
  asked : (run : List Done) → IsRun network run → ChannelAsked request run
  asked run is = fully-asked network request owner fits sound full run is

  -- once a move has told what it has kept, the first hop has taken so much
  abbrev MovesKept : List Done → List Learnt → Type 0
  MovesKept run outcomes = (told : Shifted) → moved_off request.chan outcomes ≡ Some told → Frozen network request first run told.kept

  -- a move that was told of before
  was-moved : (script : List Task) (past : List Done) (done : Done) (task : Task) (rest : List Task) (replies : List Reply) (outcomes : List Learnt) → OwnStep network owner script past done task rest replies outcomes → MovesKept past outcomes → MovesKept (done ∷ past) outcomes
  was-moved script past done task rest replies outcomes step was told moved =
      let notes = subst (λ (s : Standing). NotesSound s.outcomes) step.stands (standing-sound network owner script past step.found step.run).notes in
      let goes = step-goes network request owner fits sound (owned-once network request owner full) script past done task rest replies outcomes step in
      frozen-later network request first done past told.kept fits (asked past step.run) step.run step.next (asks-mild network request done past (task ∷ rest) replies outcomes told notes moved step.asks goes) (was told moved)

  -- and one that is told of now
  now-moved : (script : List Task) (past : List Done) (done : Done) (task : Task) (rest : List Task) (replies : List Reply) (outcomes : List Learnt) → OwnStep network owner script past done task rest replies outcomes → MovesKept past outcomes → (told : Shifted) → MoveTold request task (replies ++ done.reply ∷ []) outcomes told → Frozen network request first (done ∷ past) told.kept
  now-moved script past done task rest replies outcomes step was told (Was before) = was-moved script past done task rest replies outcomes step was told before
  now-moved script past done task rest replies outcomes step was told (Now old new gap size same chan tells) =
      let leaving = move-own request old new gap size task (own-task network request owner script past done task rest replies outcomes full step) same chan in
      leaves-frozen network request owner first fits sound full script past done task rest replies outcomes told.kept step leaving (told-count (replies ++ done.reply ∷ []) told tells)

  moves-kept : (script : List Task) → KeptBySteps network owner script (λ run outcomes tasks. MovesKept run outcomes) (λ run at. MovesKept run at.outcomes)
  moves-kept script = record {
    first = λ told moved. absurd (no-moves request told moved);
    begins = λ run outcomes tasks was. was;
    off = λ past done at run next other was told moved. frozen-later network request first done past told.kept fits (asked past run) run next (off-mild (channel_number request.chan) done.ask (others-off network request owner past done full next other)) (was told moved);
    goes = λ past done task rest replies outcomes to step more was. was-moved script past done task rest replies outcomes step was;
    over = λ past done task rest replies outcomes step none was told moved. now-moved script past done task rest replies outcomes step was told (move-told request task (replies ++ done.reply ∷ []) outcomes told moved);
  }

  pub run-moved : (run : List Done) (script : List Task) → IsRun network run → slice_get network.scripts owner ≡ Some script → (told : Shifted) → moved_off request.chan (standing script (replies_to owner run)).outcomes ≡ Some told → Frozen network request first run told.kept
  run-moved run script is found = each-run network owner script found (λ past outcomes tasks. MovesKept past outcomes) (λ past at. MovesKept past at.outcomes) (moves-kept script) run is

pub moves-keep : EveryMoveKeeps
moves-keep network request owner first run tasks told fits sound full is found moved = record {
  numbered = packets-numbered network request run 0 first fits is (fully-asked network request owner fits sound full run is);
  count = (run-moved network request owner first fits sound full run tasks is found told moved).upto;
}
