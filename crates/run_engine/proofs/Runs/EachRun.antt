-- What is so before the first step of a run, and is kept by each step of one caller and by each step of the others, is so of where that
-- caller stands after every run.
use Rattle.std.proofs.Common.{◌≡◌, ◌≢◌, ℕ, true, false, List, [], ◌∷◌, ◌++◌, Option, Some, None, refl, sym, ap, ◌∙◌, subst, inl, inr}
use Rattle.run_engine.proofs.Words.{cases_Bool, cond_both, eqb-true, eqb-false, slice_get, nat_eq, actor_number, LinkNo, Ask, Arrive, Tick, Packet, Reply, Each, Learnt, Standing, task_ask, takes_step, ready, from_step, begun, outcome_by, continued, resumed, standing, first_ask, Network, Task, Flight, next_due, ask_due, replies_to, Done, plane_no, plane_at, IsNext, IsRun}
use Rattle.run_engine.proofs.Runs.RunLegal.{plane-next, caller-next, replies-by, replies-off, owner-asks}
use Rattle.run_engine.proofs.Tasks.CallerAsksFit.{standing-more}

-- ---- the tasks that are left

-- what is so of the tasks that are left, as one of them begins and as those before it are passed over
pub from-step-by : (Q P : List Task → Type 0) (outcomes : List Learnt) → (Q [] → P [])
    → ((task : Task) (tasks : List Task) → takes_step outcomes task ≡ true → Q (task ∷ tasks) → P (ready outcomes task ∷ tasks))
    → ((task : Task) (tasks : List Task) → takes_step outcomes task ≡ false → Q (task ∷ tasks) → Q tasks)
    → (tasks : List Task) → Q tasks → P (from_step outcomes tasks)
unfolding from_step
from-step-by Q P outcomes none begins passes [] left = none left
from-step-by Q P outcomes none begins passes (task ∷ tasks) left =
    cond_both (takes_step outcomes task) (ready outcomes task ∷ tasks) (from_step outcomes tasks) P
    (λ takes. begins task tasks takes left) (λ over. from-step-by Q P outcomes none begins passes tasks (passes task tasks over left))

-- what is so of a task is so of it as it begins
abbrev pub KeptAsBegun : (Task → Type 0) → Type 0
KeptAsBegun T = (outcomes : List Learnt) (task : Task) → T task → T (ready outcomes task)

-- what is so of each task of a script is so of each that is left
pub each-left : (T : Task → Type 0) → KeptAsBegun T → (outcomes : List Learnt) (tasks : List Task) → Each T tasks → Each T (from_step outcomes tasks)
each-left T begins outcomes tasks each =
    from-step-by (Each T) (Each T) outcomes (λ none. none) (λ task rest takes all. (begins outcomes task all.0, all.1)) (λ task rest over all. all.1) tasks each

each-continued : (T : Task → Type 0) → KeptAsBegun T → (outcomes : List Learnt) (task : Task) (tasks : List Task) (replies : List Reply) (next : Option (LinkNo × Ask)) → Each T (task ∷ tasks) → Each T (continued outcomes task tasks replies next).tasks
each-continued T begins outcomes task tasks replies (Some to) each = each
each-continued T begins outcomes task tasks replies None each = each-left T begins (outcome_by task replies ++ outcomes) tasks each.1

pub each-resumed : (T : Task → Type 0) → KeptAsBegun T → (outcomes : List Learnt) (tasks : List Task) (replies : List Reply) → Each T tasks → Each T (resumed outcomes tasks replies).tasks
unfolding resumed
each-resumed T begins outcomes [] replies each = tt
each-resumed T begins outcomes (task ∷ tasks) replies each = each-continued T begins outcomes task tasks replies (task_ask task replies) each

pub each-standing : (T : Task → Type 0) → KeptAsBegun T → (tasks : List Task) (replies : List Reply) → Each T tasks → Each T (standing tasks replies).tasks
unfolding standing
each-standing T begins tasks [] each = each-left T begins [] tasks each
each-standing T begins tasks (reply ∷ before) each =
    each-resumed T begins (standing tasks before).outcomes (standing tasks before).tasks ((standing tasks before).replies ++ reply ∷ []) (each-standing T begins tasks before each)

-- ---- what an entry asks

-- what each ask of each of these tasks is, the next one is
pub first-asks : (K : Ask → Type 0) (T : Task → Type 0) → ((task : Task) (replies : List Reply) (to : LinkNo) (ask : Ask) → T task → task_ask task replies ≡ Some (to, ask) → K ask)
    → (tasks : List Task) (replies : List Reply) (to : LinkNo) (ask : Ask) → Each T tasks → first_ask tasks replies ≡ Some (to, ask) → K ask
first-asks K T asks [] replies to ask each same = cc
first-asks K T asks (task ∷ tasks) replies to ask each same = asks task replies to ask each.0 same

-- what each ask of the tasks of an actor's script is, and each of the plane's, so is the ask of the actor's entry
module _ (K : Ask → Type 0) (T : Task → Type 0) (begins : KeptAsBegun T) (tick : K Tick) (arrive : (packet : Packet) → K (Arrive packet)) (asks : (task : Task) (replies : List Reply) (to : LinkNo) (ask : Ask) → T task → task_ask task replies ≡ Some (to, ask) → K ask) where
  plane-asks : (found : Option Flight) (ticked : ℕ) (to : LinkNo) (ask : Ask) → ask_due ticked found ≡ (to, ask) → K ask
  plane-asks None ticked to ask same = subst K (ap (λ pair. pair.1) same) tick
  plane-asks (Some flight) ticked to ask same = subst K (ap (λ pair. pair.1) same) (arrive flight.packet)

  pub entry-asks : (network : Network) (past : List Done) (done : Done) → IsNext network past done → ((tasks : List Task) → slice_get network.scripts (actor_number done.actor) ≡ Some tasks → Each T tasks) → K done.ask
  entry-asks network past done next each =
      elim (cases_Bool (nat_eq (actor_number done.actor) (plane_no network))) [
        | inl plane ↦
            (let due = plane-next network past done next (eqb-true (actor_number done.actor) (plane_no network) plane) in
            plane-asks (next_due (plane_at network past)) (plane_at network past).ticked done.link done.ask due.asks)
        | inr caller ↦
            (let own = caller-next network past done next (eqb-false (actor_number done.actor) (plane_no network) caller) in
            first-asks K T asks _ _ done.link done.ask (each-standing T begins own.tasks (replies_to (actor_number done.actor) past) (each own.tasks own.found)) own.asks)
      ]

-- ---- the steps of one caller

-- the caller's step, with this task under way
pub record OwnStep (network : Network) (owner : ℕ) (script : List Task) (past : List Done) (done : Done) (task : Task) (rest : List Task) (replies : List Reply) (outcomes : List Learnt) : Type 0 where
  pub run : IsRun network past
  pub next : IsNext network past done
  pub by : actor_number done.actor ≡ owner
  pub found : slice_get network.scripts owner ≡ Some script
  pub stands : standing script (replies_to owner past) ≡ record { tasks = task ∷ rest; replies = replies; outcomes = outcomes }
  pub asks : task_ask task replies ≡ Some (done.link, done.ask)

-- what is so of each of its steps is so of where it stands as it makes one
pub at-step : (network : Network) (owner : ℕ) (script : List Task) (past : List Done) (done : Done) → IsRun network past → IsNext network past done → actor_number done.actor ≡ owner → slice_get network.scripts owner ≡ Some script → (X : Standing → Type 0)
    → ((task : Task) (rest : List Task) (replies : List Reply) (outcomes : List Learnt) → OwnStep network owner script past done task rest replies outcomes → X (record { tasks = task ∷ rest; replies = replies; outcomes = outcomes })) → X (standing script (replies_to owner past))
at-step network owner script past done run next by found X each =
    (let at = standing script (replies_to owner past) in by-left at.tasks at.replies at.outcomes refl (owner-asks network past done owner script next by found)) where
      by-left : (left : List Task) (replies : List Reply) (outcomes : List Learnt) → standing script (replies_to owner past) ≡ record { tasks = left; replies = replies; outcomes = outcomes } → first_ask left replies ≡ Some (done.link, done.ask) → X (record { tasks = left; replies = replies; outcomes = outcomes })
      by-left [] replies outcomes is asks = cc
      by-left (task ∷ rest) replies outcomes is asks = each task rest replies outcomes (record { run = run; next = next; by = by; found = found; stands = is; asks = asks })

-- an entry of another actor keeps where the caller stands
abbrev pub KeptByOthers : Network → ℕ → (List Done → Standing → Type 0) → Type 0
KeptByOthers network owner P = (past : List Done) (done : Done) (at : Standing) → IsRun network past → IsNext network past done → actor_number done.actor ≢ owner → P past at → P (done ∷ past) at

module _ (network : Network) (owner : ℕ) (script : List Task) (found : slice_get network.scripts owner ≡ Some script) (P : List Done → Standing → Type 0) where
  -- each step takes the caller on
  abbrev pub Resumes : Type 0
  Resumes = (past : List Done) (done : Done) (task : Task) (rest : List Task) (replies : List Reply) (outcomes : List Learnt) → OwnStep network owner script past done task rest replies outcomes
      → P past (record { tasks = task ∷ rest; replies = replies; outcomes = outcomes }) → P (done ∷ past) (resumed outcomes (task ∷ rest) (replies ++ done.reply ∷ []))

  pub entry-kept : KeptByOthers network owner P → Resumes → (past : List Done) (done : Done) → IsRun network past → IsNext network past done → P past (standing script (replies_to owner past)) → P (done ∷ past) (standing script (replies_to owner (done ∷ past)))
  entry-kept off step past done run next was =
      elim (cases_Bool (nat_eq (actor_number done.actor) owner)) [
        | inl own ↦
            (let by = eqb-true (actor_number done.actor) owner own in
            subst (P (done ∷ past)) (sym (ap (standing script) (replies-by owner done past by) ∙ standing-more script done.reply (replies_to owner past)))
            (at-step network owner script past done run next by found (λ at. P past at → P (done ∷ past) (resumed at.outcomes at.tasks (at.replies ++ done.reply ∷ []))) (step past done) was))
        | inr others ↦
            (let other = eqb-false (actor_number done.actor) owner others in
            subst (λ rs. P (done ∷ past) (standing script rs)) (sym (replies-off owner done past other)) (off past done (standing script (replies_to owner past)) run next other was))
      ]

  -- so it is after every run
  pub each-run-resumed : P [] (begun [] script) → KeptByOthers network owner P → Resumes → (run : List Done) → IsRun network run → P run (standing script (replies_to owner run))
  unfolding IsRun replies_to standing
  each-run-resumed first off step [] is = first
  each-run-resumed first off step (done ∷ past) is = entry-kept off step past done is.0 is.1 (each-run-resumed first off step past is.0)

-- the same by what a step does to a task: it goes on, or it is over and the next one begins. Q is what is so before one begins
pub record KeptBySteps (network : Network) (owner : ℕ) (script : List Task) (Q : List Done → List Learnt → List Task → Type 0) (P : List Done → Standing → Type 0) : Type 0 where
  pub first : Q [] [] script
  pub begins : (run : List Done) (outcomes : List Learnt) (tasks : List Task) → Q run outcomes tasks → P run (begun outcomes tasks)
  pub off : KeptByOthers network owner P
  pub goes : (past : List Done) (done : Done) (task : Task) (rest : List Task) (replies : List Reply) (outcomes : List Learnt) (to : LinkNo × Ask) → OwnStep network owner script past done task rest replies outcomes → task_ask task (replies ++ done.reply ∷ []) ≡ Some to
      → P past (record { tasks = task ∷ rest; replies = replies; outcomes = outcomes }) → P (done ∷ past) (record { tasks = task ∷ rest; replies = replies ++ done.reply ∷ []; outcomes = outcomes })
  pub over : (past : List Done) (done : Done) (task : Task) (rest : List Task) (replies : List Reply) (outcomes : List Learnt) → OwnStep network owner script past done task rest replies outcomes → task_ask task (replies ++ done.reply ∷ []) ≡ None
      → P past (record { tasks = task ∷ rest; replies = replies; outcomes = outcomes }) → Q (done ∷ past) (outcome_by task (replies ++ done.reply ∷ []) ++ outcomes) rest

module _ (network : Network) (owner : ℕ) (script : List Task) (found : slice_get network.scripts owner ≡ Some script) (Q : List Done → List Learnt → List Task → Type 0) (P : List Done → Standing → Type 0) (kept : KeptBySteps network owner script Q P) where
  continues : (past : List Done) (done : Done) (task : Task) (rest : List Task) (replies : List Reply) (outcomes : List Learnt) (next : Option (LinkNo × Ask)) → OwnStep network owner script past done task rest replies outcomes → task_ask task (replies ++ done.reply ∷ []) ≡ next
      → P past (record { tasks = task ∷ rest; replies = replies; outcomes = outcomes }) → P (done ∷ past) (continued outcomes task rest (replies ++ done.reply ∷ []) next)
  continues past done task rest replies outcomes (Some to) step is was = kept.goes past done task rest replies outcomes to step is was
  continues past done task rest replies outcomes None step is was =
      kept.begins (done ∷ past) (outcome_by task (replies ++ done.reply ∷ []) ++ outcomes) rest (kept.over past done task rest replies outcomes step is was)

  resumes : Resumes network owner script found P
  unfolding resumed
  resumes past done task rest replies outcomes step was = continues past done task rest replies outcomes (task_ask task (replies ++ done.reply ∷ [])) step refl was

  pub each-run : (run : List Done) → IsRun network run → P run (standing script (replies_to owner run))
  each-run run is = each-run-resumed network owner script found P (kept.begins [] [] script kept.first) kept.off resumes run is
