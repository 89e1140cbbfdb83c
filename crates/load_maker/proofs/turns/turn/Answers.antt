-- The first place from where the circle goes on at which an actor has a step left, or that there is none.
use Rattle.std.proofs.Common.{◌≡◌, None, subst, sym, ◌∙◌, arith}
use Rattle.net_units.specs.Numbers.{actor_number}
use Rattle.call_script.specs.Tasks.{network_of}
use Rattle.run_engine.specs.runs.Runs.{next_for}
use Rattle.run_engine.proofs.Schedules.PlayedTurns.{step-some}
use Rattle.load_maker.proofs.TurnLaws.{nobody-left, circle-size, place-few, turn-place, one-more}
use Rattle.load_maker.proofs.turns.turn.Goals as goal

pub actor_of-actor-requires : goal.actor_of-actor-requires
actor_of-actor-requires c = place-few c.args.plan.now c.callers.result.now _ c.requires.stands.1.stands.plan c.callers.ensures.value

pub next_ask-requires : goal.next_ask-requires
next_ask-requires c = (c.requires.stands.0, c.requires.stands.1.stands)

pub returns-in-Some-clause-some : goal.returns-in-Some-clause-some
returns-in-Some-clause-some c = λ run at.
    let network = network_of c.args.plan.now in
    let size = circle-size c.args.plan.now c.callers.result.now c.callers.ensures.value in
    let asks = sym (c.next_ask.ensures run at.stands) ∙ c.in-Some.is in
    record {
      turn = record {
        passed = c.loop-passed.passed;
        within = omega (arith, size, c.loop-passed-test.true);
        stands = turn-place c.args.plan.now c.callers.result.now run c.args.next c.loop-passed.passed c.actor_of-actor.result at.stands.plan c.callers.ensures.value at.goes_on c.actor_of-actor.ensures;
        left = step-some (next_for network (actor_number c.actor_of-actor.result) run) _ asks;
        none = c.loop-passed.invariant run at;
      };
      asks = asks;
    }

pub loop-passed-preserved : goal.loop-passed-preserved
loop-passed-preserved c = λ run at.
    let there = turn-place c.args.plan.now c.callers.result.now run c.args.next c.loop-passed.passed c.actor_of-actor.result at.stands.plan c.callers.ensures.value at.goes_on c.actor_of-actor.ensures in
    let last = sym (c.next_ask.ensures run at.stands) ∙ c.in_default.is in
    one-more (network_of c.args.plan.now) run c.loop-passed.passed (c.loop-passed.invariant run at)
    (subst (λ n. next_for (network_of c.args.plan.now) n run ≡ None) there last)

pub returns-clause-none : goal.returns-clause-none
returns-clause-none c = λ run at.
    let size = circle-size c.args.plan.now c.callers.result.now c.callers.ensures.value in
    nobody-left (network_of c.args.plan.now) run at.stands.run (λ n less. c.loop-passed.invariant run at n (omega (arith, size, less, c.loop-passed-test.false)))
