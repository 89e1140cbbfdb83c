use Rattle.std.proofs.Common.{refl, subst, ◌∙◌, arith}
use Rattle.net_units.specs.Numbers.{actor_number}
use Rattle.question_plans.specs.More.{HasCopies}
use Rattle.question_plans.proofs.Copies.{no-copies, copies-more}
use Rattle.question_plans.proofs.more.add_copies.Goals as goal

pub loop-turn-init : goal.loop-turn-init
loop-turn-init c = no-copies c.args.like.now (actor_number c.args.own.caller) c.args.requests.now.items c.args.requests.now.items c.new-ops.result refl (c.new-ops.ensures ∙ c.new.ensures.items)

pub loop-turn-preserved : goal.loop-turn-preserved
loop-turn-preserved c =
    copies-more c.args.like.now (actor_number c.args.own.caller) c.args.requests.now.items c.loop-turn.requests.items c.add_copy.new.requests.items c.loop-turn.turn c.loop-turn.ops c.push.new.self c.in_ok-chan.chan
    c.loop-turn.invariant c.in_ok-chan.ensures c.in_ok-push.ensures.ok

pub returns : goal.returns
returns c =
    subst (λ n. HasCopies c.args.like.now (actor_number c.args.own.caller) c.args.requests.now.items n c.loop-turn.requests.items c.loop-turn.ops)
    (omega (arith, c.loop-turn-test.false, c.loop-turn.auto.turn-end)) c.loop-turn.invariant
