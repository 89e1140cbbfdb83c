-- What the tick tells is kept.
use Rattle.std.proofs.Common.{sym, ◌∙◌}
use Rattle.plane_workers.proofs.LinkTells.{tick-behind, tick-untold}
use Rattle.plane_workers.proofs.told.tick.Goals as goal

pub returns-in_ok-push : goal.returns-in_ok-push
returns-in_ok-push g c =
    tick-behind c.args.link.now c.step_into.new.self c.step_into.new.reply c.args.told.now.items c.push.new.self.items (record { same = c.step_into.ensures.same; legal = c.step_into.ensures.legal; entered = c.step_into.ensures.entered }) (sym c.is_told.ensures ∙ c.if-is_told.true)
    c.in_ok-push.ensures.items

pub returns-else-is_told : goal.returns-else-is_told
returns-else-is_told g c =
    tick-untold c.args.link.now c.step_into.new.self c.step_into.new.reply c.args.told.now.items (record { same = c.step_into.ensures.same; legal = c.step_into.ensures.legal; entered = c.step_into.ensures.entered }) (sym c.is_told.ensures ∙ c.if-is_told.false)
