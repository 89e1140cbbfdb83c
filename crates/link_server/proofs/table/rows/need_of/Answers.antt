-- The need is that of the stay with the reach before and this one.
use Rattle.std.proofs.Common.{◌+◌, ap, ◌∙◌}
use Rattle.link_steps.specs.Buffer.{units_for, need_of}
use Rattle.link_server.proofs.table.rows.need_of.Goals as goal

pub returns : goal.returns
unfolding need_of
returns c = c.units_for.ensures.value ∙ ap (λ bound. units_for c.args.contract.now (c.args.up_reach + bound)) (c.from.ensures ∙ c.at.ensures.value)
