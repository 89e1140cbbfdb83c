-- A quiet tick is counted, and another reply is written out.
use Rattle.std.proofs.Common.{◌∷◌, [], ◌++◌, sym, ap, ◌∙◌}
use Rattle.link_steps.specs.Quiet.{quiet_reply}
use Rattle.plane_workers.specs.Said.{said_in}
use Rattle.plane_workers.specs.declared.lane.Said.TheVariants.{Quiet, Replied}
use Rattle.plane_workers.proofs.SaidInTurn.{keep-one, keep-reply}
use Rattle.plane_workers.proofs.answering.keep.Goals as goal

pub returns-in-Some : goal.returns-in-Some
returns-in-Some c =
    keep-one c.args.said.now.items c.push_reserved.new.self.items c.new-run.result (c.push_reserved.ensures.items ∙ ap (λ kept. kept ++ Quiet c.new-run.result ∷ []) c.reserve.ensures.items) c.new-run.ensures.ticks
    ∙ ap (λ reply. said_in c.args.said.now.items ++ reply ∷ []) (ap quiet_reply c.new-run.ensures.clock ∙ sym c.in-Some.ensures)

pub returns-in_default : goal.returns-in_default
returns-in_default c = keep-reply c.args.said.now.items c.push_reserved-in_default.new.self.items c.args.reply.now (c.push_reserved-in_default.ensures.items ∙ ap (λ kept. kept ++ Replied c.args.reply.now ∷ []) c.reserve.ensures.items)
