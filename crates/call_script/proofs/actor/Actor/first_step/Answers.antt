-- The operation at hand takes a step, or it doesn't.
use Rattle.std.proofs.Common.{map, sym, ◌∙◌}
use Rattle.call_script.specs.Tasks.{request_of}
use Rattle.call_script.proofs.CallerStanding.{step-here, step-later, step-none}
use Rattle.call_script.proofs.actor.Actor.first_step.Goals as goal

pub returns-in-Some-clause-some : goal.returns-in-Some-clause-some
returns-in-Some-clause-some c = λ outcomes are.
    c.loop-index.invariant outcomes are ∙ step-here outcomes (map request_of c.args.requests.now) c.args.ops.now c.loop-index.index c.index-ops-index.result c.in-Some.task c.loop-index-test.true c.index-ops-index.is
    (sym (c.step_of.ensures.task outcomes are) ∙ c.in-Some.is)

pub loop-index-preserved : goal.loop-index-preserved
loop-index-preserved c = λ outcomes are.
    c.loop-index.invariant outcomes are ∙ step-later outcomes (map request_of c.args.requests.now) c.args.ops.now c.loop-index.index c.index-ops-index.result c.loop-index-test.true c.index-ops-index.is
    (sym (c.step_of.ensures.task outcomes are) ∙ c.in_default.is)

pub returns-clause-none : goal.returns-clause-none
returns-clause-none c = λ outcomes are. c.loop-index.invariant outcomes are ∙ step-none outcomes (map request_of c.args.requests.now) c.args.ops.now c.loop-index.index c.loop-index-test.false
