use Rattle.std.proofs.Common.{subst, arith}
use Rattle.std.proofs.lemmas.List.{take_all}
use Rattle.link_steps.specs.Lists.{Each}
use Rattle.link_steps.proofs.SearchAndFilter.{Each-map}
use Rattle.link_ledger.specs.Tokens.{Token}
use Rattle.race_run.specs.Tail.{AreUpTo, own_in}
use Rattle.race_run.proofs.PieceSteps.TailComesLast.{all-more}
use Rattle.race_run.proofs.tail.latest_of_all.Goals as goal

pub loop-pass-preserved : goal.loop-pass-preserved
loop-pass-preserved c =
    all-more c.loop-pass.stamp c.latest_of-stamp.result c.args.passes.now c.loop-pass.pass-index c.pass-item.result c.loop-pass-test.true c.pass-item.is c.loop-pass.invariant c.latest_of-stamp.ensures.least
    (subst (AreUpTo c.latest_of-stamp.result) c.own.ensures c.latest_of-stamp.ensures.all)

pub returns : goal.returns
returns c =
    Each-map (AreUpTo c.loop-pass.stamp) own_in c.args.passes.now
    (subst (Each (λ (p : Token). AreUpTo c.loop-pass.stamp p.own)) (take_all c.loop-pass.pass-index c.args.passes.now (omega (arith, c.loop-pass-test.false))) c.loop-pass.invariant)
