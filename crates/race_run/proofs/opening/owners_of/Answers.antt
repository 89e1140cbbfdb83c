use Rattle.std.proofs.Common.{map, ap, ◌∙◌, arith}
use Rattle.std.proofs.lemmas.List.{take_all}
use Rattle.race_run.specs.Callers.{caller_of}
use Rattle.run_engine.proofs.Keeping.OneByOne.{taken-more}
use Rattle.race_run.proofs.opening.owners_of.Goals as goal

pub loop-entry-preserved : goal.loop-entry-preserved
loop-entry-preserved c =
    c.in_ok-push.ensures.items ∙ taken-more caller_of c.requests-entries.result.now c.loop-entry.owners.items c.loop-entry.entry-index c.entry-item.result c.loop-entry-test.true c.entry-item.is c.loop-entry.invariant

pub returns : goal.returns
returns c =
    c.loop-entry.invariant ∙ ap (map caller_of) (take_all c.loop-entry.entry-index c.requests-entries.result.now (omega (arith, c.loop-entry-test.false))) ∙ ap (map caller_of) c.requests-entries.ensures.value
