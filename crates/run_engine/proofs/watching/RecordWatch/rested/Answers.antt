-- The rounds are recorded after the others.
use Rattle.std.proofs.Common.{length, reverse, sym, ap, ◌∙◌, arith}
use Rattle.std.proofs.lemmas.Result.{on_ok_weaker}
use Rattle.run_engine.proofs.Words.{network_of}
use Rattle.call_script.proofs.PlansFit.{plan-fits, links-few, links-are}
use Rattle.run_engine.proofs.Watched.WatchedStrides.{rested-is}
use Rattle.run_engine.proofs.watching.RecordWatch.rested.Goals as goal

pub overflow_cast-links : goal.overflow_cast-links
overflow_cast-links c = (let few = links-few c.args.plan.now c.links.ensures.valid in let same = ap length c.links.ensures.value in omega (arith, few, same))

pub record_rounds-requires-clause-links : goal.record_rounds-requires-clause-links
record_rounds-requires-clause-links c = (let few = links-few c.args.plan.now c.links.ensures.valid in let same = ap length c.links.ensures.value in omega (arith, few, same))

pub record_rounds-requires-clause-rounds : goal.record_rounds-requires-clause-rounds
record_rounds-requires-clause-rounds c =
    let next = c.requires.1 in
    let left = next.rests.plane.left in
    let at = next.at in
    let few = (plan-fits c.args.plan.now next.plan).rounds in
    omega (arith, left, at, few)

pub returns-clause-seen : goal.returns-clause-seen
returns-clause-seen c =
    on_ok_weaker c.record_rounds.result
    (λ is past next.
    rested-is (network_of c.args.plan.now) past (reverse c.args.self.now.entries) (reverse c.record_rounds.new.kept.entries) c.plane_of.result (length c.links.result.now) c.args.first c.args.rounds is c.plane_of.ensures (ap length c.links.ensures.value ∙ sym (links-are c.args.plan.now)) next.at next.seen)
    c.record_rounds.ensures
