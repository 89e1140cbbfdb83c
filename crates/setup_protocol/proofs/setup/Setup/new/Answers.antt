use Rattle.std.proofs.Common.{sym, ap, ◌∙◌}
use Rattle.setup_protocol.specs.Setup.{Reserving}
use Rattle.setup_protocol.proofs.SetupAdvances.{progress-none}
use Rattle.setup_protocol.proofs.setup.Setup.new.Goals as goal

pub returns-clause-stands : goal.returns-clause-stands
returns-clause-stands c = ap (λ o. Reserving o.levels o.reach) c.new.ensures.value ∙ sym (progress-none c.args.request.now c.new.ensures.valid.least)
