use Rattle.std.proofs.Common.{◌∙◌}
use Rattle.net_units.specs.Numbers.{channel_number}
use Rattle.setup_points.proofs.Ends.{none-ends, end-more, end-all}
use Rattle.setup_points.proofs.run.end_among.Goals as goal

pub loop-place-init : goal.loop-place-init
loop-place-init c = none-ends (channel_number c.args.chan) c.args.entries.now

pub loop-place-preserved : goal.loop-place-preserved
loop-place-preserved c =
    c.later_end-end.ensures ∙ end-more (channel_number c.args.chan) c.args.entries.now c.loop-place.place c.index-entries-place.result c.loop-place.end c.loop-place-test.true c.index-entries-place.is c.loop-place.invariant

pub returns : goal.returns
returns c = end-all (channel_number c.args.chan) c.args.entries.now c.loop-place.place c.loop-place.end c.loop-place-test.false c.loop-place.invariant
