use Rattle.std.proofs.Common.{subst, arith}
use Rattle.std.proofs.lemmas.List.{take_all}
use Rattle.std.proofs.Math.Nat.{le-max_left, le-max_right}
use Rattle.race_run.specs.Tail.{AreUpTo}
use Rattle.race_run.proofs.PieceSteps.TailComesLast.{latest-more}
use Rattle.race_run.proofs.tail.latest_of.Goals as goal

pub loop-entry-preserved : goal.loop-entry-preserved
loop-entry-preserved c =
    let so = c.loop-entry.invariant in
    let least = so.least in
    let left = le-max_left c.loop-entry.latest c.entry-item.result.stamp in
    let right = le-max_right c.loop-entry.latest c.entry-item.result.stamp in
    let is = c.max-latest.ensures in
    record {
      least = omega (arith, least, left, is);
      all = latest-more c.loop-entry.latest c.max-latest.result c.args.entries.now c.loop-entry.entry-index c.entry-item.result c.loop-entry-test.true c.entry-item.is so.all (omega (arith, left, is)) (omega (arith, right, is));
    }

pub returns-clause-all : goal.returns-clause-all
returns-clause-all c = subst (AreUpTo c.loop-entry.latest) (take_all c.loop-entry.entry-index c.args.entries.now (omega (arith, c.loop-entry-test.false))) c.loop-entry.invariant.all
