use Rattle.std.proofs.Common.{◌≡◌, List, drop, map}
use Rattle.call_script.specs.Channels.{AreTold}
use Rattle.call_script.specs.Scripts.{Learnt, from_step}
use Rattle.call_script.specs.Tasks.{request_of, tasks_of}
use Rattle.call_script.proofs.actor.Actor.first_step.Given as goal

-- no operation so far takes a step
abbrev pub invariant-loop-index : goal.invariant-loop-index
invariant-loop-index l =
    (outcomes : List Learnt) → AreTold l.self.channels.by_number.items outcomes
    → from_step outcomes (tasks_of (map request_of l.requests) (drop l.self.next l.ops)) ≡ from_step outcomes (tasks_of (map request_of l.requests) (drop l.index l.ops))
