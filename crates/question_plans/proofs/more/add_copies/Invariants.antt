use Rattle.net_units.specs.Numbers.{actor_number}
use Rattle.question_plans.specs.More.{HasCopies}
use Rattle.question_plans.proofs.more.add_copies.Given as goal

-- the copies so far
abbrev pub invariant-loop-turn : goal.invariant-loop-turn
invariant-loop-turn l = HasCopies l.like (actor_number l.own.caller) l.initial.requests.items l.turn l.requests.items l.ops
