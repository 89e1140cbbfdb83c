-- A caller as it is kept: where it stands, and its next task that takes a step.
use Rattle.std.proofs.Common.{◌≡◌, ◌+◌, ◌<◌, ◌≤◌, ℕ, Option, Some, None, List, [], ◌∷◌, length, drop, get_or, refl, ap, ◌∙◌, inl, inr, option_map, arith}
use Rattle.std.proofs.lemmas.Bool.{cases_Bool}
use Rattle.std.proofs.lemmas.List.{drop_all}
use Rattle.std.proofs.lemmas.Option.{slice_get-map}
use Rattle.net_units.specs.Numbers.{actor_number}
use Rattle.link_steps.specs.declared.replies.Reply.{Reply}
use Rattle.setup_protocol.specs.declared.request.Request.{Request}
use Rattle.call_script.specs.Parts.{PlanParts}
use Rattle.call_script.specs.Scripts.{Learnt, takes_step, ready, from_step, standing, standing_of}
use Rattle.call_script.specs.Standing.{requests_of, CallerStands, standing_in, if_step}
use Rattle.call_script.specs.Tasks.{network_of, script_of, task_of, with_task, tasks_of}
use Rattle.call_script.specs.declared.actor.Actor.{Actor}
use Rattle.call_script.specs.declared.operations.Op.{Op}
use Rattle.call_script.specs.declared.tasks.Task.{Task}
use Rattle.call_script.proofs.Walks.{left-at}

-- ---- where it stands

pub stands-in : (parts : PlanParts) (actor : Actor) (replies : List Reply) (stands : CallerStands parts actor replies)
    → standing_in parts (actor_number actor.caller) replies ≡ standing (script_of (requests_of parts) stands.caller) replies
unfolding network_of
stands-in parts actor replies stands =
    ap (λ script. standing_of script replies)
    (slice_get-map (script_of (requests_of parts)) parts.callers (actor_number actor.caller) ∙ ap (option_map (script_of (requests_of parts))) stands.found)

-- ---- the next task that takes a step

some-same : (task step : Task) → Some task ≡ Some step → task ≡ step
some-same task step same = cc

op-steps : (outcomes : List Learnt) (task : Option Task) (tasks : List Task) (step : Task) → if_step outcomes task ≡ Some step → from_step outcomes (with_task task tasks) ≡ step ∷ tasks
unfolding from_step
op-steps outcomes None tasks step is = cc
op-steps outcomes (Some task) tasks step is =
    elim (cases_Bool (takes_step outcomes task)) [
      | inl takes ↦ (let same : Some (ready outcomes task) ≡ Some step = rw takes at is in rw takes (ap (λ t. t ∷ tasks) (some-same (ready outcomes task) step same)))
      | inr passes ↦ (let clash : None ≡ Some step = rw passes at is in cc)
    ]

op-passes : (outcomes : List Learnt) (task : Option Task) (tasks : List Task) → if_step outcomes task ≡ None → from_step outcomes (with_task task tasks) ≡ from_step outcomes tasks
unfolding from_step
op-passes outcomes None tasks is = refl
op-passes outcomes (Some task) tasks is =
    elim (cases_Bool (takes_step outcomes task)) [
      | inl takes ↦ (let clash : Some (ready outcomes task) ≡ None = rw takes at is in cc)
      | inr passes ↦ rw passes refl
    ]

left-tasks : (requests : List Request) (ops : List Op) (i : ℕ) (op : Op) → i < length ops → op ≡ get_or ops i op → tasks_of requests (drop i ops) ≡ with_task (task_of requests op) (tasks_of requests (drop (i + 1) ops))
unfolding tasks_of
left-tasks requests ops i op within is = ap (tasks_of requests) (left-at ops i op within is)

module _ (outcomes : List Learnt) (requests : List Request) (ops : List Op) (i : ℕ) where
  pub step-here : (op : Op) (step : Task) → i < length ops → op ≡ get_or ops i op → if_step outcomes (task_of requests op) ≡ Some step
      → from_step outcomes (tasks_of requests (drop i ops)) ≡ step ∷ tasks_of requests (drop (i + 1) ops)
  step-here op step within is steps =
      ap (from_step outcomes) (left-tasks requests ops i op within is) ∙ op-steps outcomes (task_of requests op) (tasks_of requests (drop (i + 1) ops)) step steps

  pub step-later : (op : Op) → i < length ops → op ≡ get_or ops i op → if_step outcomes (task_of requests op) ≡ None
      → from_step outcomes (tasks_of requests (drop i ops)) ≡ from_step outcomes (tasks_of requests (drop (i + 1) ops))
  step-later op within is passes =
      ap (from_step outcomes) (left-tasks requests ops i op within is) ∙ op-passes outcomes (task_of requests op) (tasks_of requests (drop (i + 1) ops)) passes

  pub step-none : length ops ≤ i → from_step outcomes (tasks_of requests (drop i ops)) ≡ []
  unfolding from_step tasks_of
  step-none past = ap (λ rest. from_step outcomes (tasks_of requests rest)) (drop_all i ops past)

-- at the end no task is left
pub none-left : (requests : List Request) (ops : List Op) → tasks_of requests (drop (length ops) ops) ≡ []
unfolding tasks_of
none-left requests ops = ap (tasks_of requests) (drop_all (length ops) ops (omega arith))
