use Rattle.std.proofs.Common.{sym, ◌∙◌}
use Rattle.call_script.proofs.ChannelsAsLearnt.{with-answered, with-unplanned}
use Rattle.call_script.proofs.channels.Channels.answer.Goals as goal

pub returns-then-is_planned-clause-told : goal.returns-then-is_planned-clause-told
returns-then-is_planned-clause-told c = λ outcomes are.
    with-answered c.plan.new.self.by_number.items c.args.chan c.args.gap c.args.size c.args.reply.now outcomes (sym c.is_planned.ensures ∙ c.if-is_planned.true) (c.plan.ensures.told outcomes are)

pub returns-else-is_planned-clause-told : goal.returns-else-is_planned-clause-told
returns-else-is_planned-clause-told c = λ outcomes are.
    with-unplanned c.args.self.now.by_number.items c.args.chan c.args.gap c.args.size c.args.reply.now outcomes (sym c.is_planned.ensures ∙ c.if-is_planned.false) are
