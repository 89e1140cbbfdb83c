-- The units are those of the window of its stay.
use Rattle.std.proofs.Common.{ap, ◌∙◌}
use Rattle.link_steps.specs.Buffer.{units_for, held_units}
use Rattle.link_server.proofs.table.served_row.ServedRow.units.Goals as goal

pub returns : goal.returns
unfolding held_units
returns c = c.units_for.ensures.value ∙ ap (units_for c.args.self.now.contract) c.stay.ensures.value
