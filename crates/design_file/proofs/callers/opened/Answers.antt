use Rattle.std.proofs.Common.{◌∙◌, refl}
use Rattle.call_script.specs.Parts.{opening_of}
use Rattle.design_file.proofs.callers.opened.Goals as goal
use Rattle.net_units.proofs.ListSteps.{mapped-more, mapped-all}

pub loop-entry-preserved : goal.loop-entry-preserved
loop-entry-preserved c =
    c.in_ok-add_open.ensures
    ∙ mapped-more opening_of c.args.requests.now c.loop-entry.entry-index c.entry-item.result (opening_of c.entry-item.result) _
    c.loop-entry-test.true c.entry-item.is (c.in_ok-draft.ensures ∙ c.loop-entry.invariant) refl

pub returns : goal.returns
returns c = mapped-all opening_of c.args.requests.now c.loop-entry.entry-index _ c.loop-entry-test.false c.loop-entry.invariant
