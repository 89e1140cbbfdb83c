use Rattle.std.proofs.Common.{◌≡◌, List, ◌++◌, ap, ◌∙◌, arith}
use Rattle.link_steps.specs.declared.asks.Ask.{Ask}
use Rattle.plane_workers.specs.Answered.{ticks_in}
use Rattle.plane_workers.specs.Batches.{own_asks}
use Rattle.plane_workers.proofs.BatchReplies.{own-ticks, when-no_err}
use Rattle.plane_workers.proofs.desk.Desk.answer_own.Goals as goal

pub answer-answered-requires-clause-early : goal.answer-answered-requires-clause-early
answer-answered-requires-clause-early g c =
    let own : c.as_slice.result.now ≡ own_asks c.args.number c.args.all.now = c.as_slice.ensures.value ∙ when-no_err c.add_own-asked.result c.if-is_err.ensures.value c.add_own-asked.ensures ∙ ap (λ (old : List Ask). old ++ own_asks c.args.number c.args.all.now) c.clear.ensures.items in
    let ticks = own-ticks c.args.number c.args.all.now in
    let same = ap ticks_in own in
    let early = c.requires.early in
    let few = c.requires.few in
    omega (arith, ticks, same, early, few)
