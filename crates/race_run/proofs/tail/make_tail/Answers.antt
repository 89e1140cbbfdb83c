use Rattle.std.proofs.Common.{map, arith}
use Rattle.run_engine.proofs.Keeping.NextStep.{has-few}
use Rattle.race_run.specs.Tail.{own_in}
use Rattle.shared_network.proofs.CallSteps.CallsInTurn.{goes-both}
use Rattle.race_run.proofs.PieceSteps.RaceSizes.{tail-left, tail-made}
use Rattle.race_run.proofs.PieceSteps.TailComesLast.{at-same, goes-last}
use Rattle.race_run.proofs.tail.make_tail.Goals as goal

pub overflow_add-all : goal.overflow_add-all
overflow_add-all g c = (let few = (has-few c.args.plan.now c.rounds.ensures.valid).rounds in omega (arith, few, c.rounds.ensures.value, c.tail.ensures.value))

pub make_rounds-requires-clause-stands : goal.make_rounds-requires-clause-stands
make_rounds-requires-clause-stands g c κs within = (at-same c.args.plan.now c.args.plan.now.rounds c.args.plane c.args.pass c.see_up_to.new.pass c.see_up_to.ensures.same.0 c.see_up_to.ensures.same.1 c.requires.at).at

pub make_rounds-requires-clause-until : goal.make_rounds-requires-clause-until
make_rounds-requires-clause-until g c κs within = tail-left c.args.plan.now c.args.plane c.args.pass c.rounds.result c.tail.result c.requires.at c.rounds.ensures.value c.tail.ensures.value

pub returns-clause-made : goal.returns-clause-made
returns-clause-made g c = tail-made c.args.plan.now c.make_rounds.new.plane c.make_rounds.new.pass c.rounds.result c.tail.result c.in_ok-make_rounds.ensures.stands c.in_ok-make_rounds.ensures.round c.rounds.ensures.value c.tail.ensures.value

pub returns-clause-last : goal.returns-clause-last
returns-clause-last g c =
    goes-last (map own_in c.args.callers.now) c.latest_of_all.result c.args.pass c.see_up_to.new.pass c.make_rounds.new.pass c.latest_of_all.ensures c.see_up_to.ensures.seen c.see_up_to.ensures.same.1 c.in_ok-make_rounds.ensures.later

pub returns-clause-ready : goal.returns-clause-ready
returns-clause-ready g c = goes-both _ _ _ _ _ _ c.see_up_to.ensures.ready c.in_ok-make_rounds.ensures.ready
