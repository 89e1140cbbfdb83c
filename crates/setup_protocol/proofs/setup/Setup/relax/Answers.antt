use Rattle.std.proofs.Common.{◌-◌, Some, get_or, ap, sym, ◌∙◌}
use Rattle.net_units.specs.Allotted.{levels_of}
use Rattle.link_steps.specs.Levels.{level_of}
use Rattle.link_steps.specs.declared.asks.Ask.TheVariants.{Relax}
use Rattle.link_steps.proofs.LevelByNumber.{level_of-level}
use Rattle.setup_protocol.proofs.setup.Setup.relax.Goals as goal

pub returns : goal.returns
returns c =
    let level = sym (level_of-level c.at.result) ∙ ap level_of c.at.ensures in
    rw c.hop.ensures.value
    (ap (λ l. Some (c.hop.result.link, Relax c.args.self.now.request.chan l c.bound_allotted.result)) level
    ∙ ap (λ b. Some (c.hop.result.link, Relax c.args.self.now.request.chan (level_of (get_or (levels_of c.args.levels.now) (c.args.place - 1) 0)) b)) c.bound_allotted.ensures)
