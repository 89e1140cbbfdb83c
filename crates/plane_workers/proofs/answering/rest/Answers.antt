-- The link has rested, and its ticks are kept.
use Rattle.std.proofs.Common.{◌∷◌, [], ◌++◌, ap, ◌∙◌}
use Rattle.link_quota.specs.Any.{any_clock}
use Rattle.plane_workers.specs.Said.{quiets, said_in}
use Rattle.plane_workers.specs.declared.lane.Said.TheVariants.{Quiet}
use Rattle.plane_workers.proofs.SaidInTurn.{keep-run}
use Rattle.plane_workers.proofs.answering.rest.Goals as goal

pub returns-clause-rested : goal.returns-clause-rested
returns-clause-rested g c = record { rules = c.rest.ensures.same; made = c.rest.ensures.made; legal = c.rest.ensures.legal }

pub returns-clause-said : goal.returns-clause-said
returns-clause-said g c =
    keep-run c.args.said.now.items c.push_reserved.new.self.items c.new-run.result (c.push_reserved.ensures.items ∙ ap (λ kept. kept ++ Quiet c.new-run.result ∷ []) c.reserve.ensures.items)
    ∙ ap (λ t. said_in c.args.said.now.items ++ quiets t c.new-run.result.ticks) (c.new-run.ensures.clock ∙ c.clock-clock.ensures)
    ∙ ap (λ n. said_in c.args.said.now.items ++ quiets (any_clock c.args.link.now) n) c.new-run.ensures.ticks
