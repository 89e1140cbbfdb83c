-- The slots are for the window of its stay: those that it keeps, where that is the stay that it keeps.
use Rattle.std.proofs.Common.{ap, sym, ◌∙◌}
use Rattle.link_server.proofs.Words.{most_in}
use Rattle.link_steps.specs.Buffer.{slots_of}
use Rattle.link_server.proofs.table.served_row.ServedRow.slots.Goals as goal

pub returns-then-stay-self-clause-value : goal.returns-then-stay-self-clause-value
unfolding slots_of
returns-then-stay-self-clause-value c = c.args.self.now.has_slots ∙ ap (most_in c.args.self.now.contract) (sym c.if-stay-self.true ∙ c.stay-stay.ensures.value)

pub returns-clause-value : goal.returns-clause-value
unfolding slots_of
returns-clause-value c = c.bound.ensures.value ∙ ap (most_in c.args.self.now.contract) c.stay-stay.ensures.value
