-- Nothing is asked yet, and then one more ask is answered.
use Rattle.std.proofs.Common.{List, [], ◌∷◌, ◌++◌, sym, ap, ◌∙◌, subst, arith}
use Rattle.link_steps.specs.declared.replies.Reply.{Reply}
use Rattle.plane_workers.specs.Answered.{IsAnswered}
use Rattle.plane_workers.proofs.AsksInTurn.{none-answered, next-answered, none-ticks, clock-step, ticks-more, ticks-front}
use Rattle.plane_workers.proofs.desk.answer.Goals as goal

pub loop-ask-init : goal.loop-ask-init
loop-ask-init g c = record {
  so_far = subst (λ (rs : List Reply). IsAnswered g.L.LinkStep.link_of g.L.LinkStep.stands_for c.args.link.now c.args.link.now [] rs) (sym c.requires.none) (none-answered g.L.LinkStep.link_of g.L.LinkStep.stands_for c.args.link.now);
  clock = none-ticks (g.L.LinkStep.clock_at c.args.link.now);
}

pub loop-ask-preserved : goal.loop-ask-preserved
loop-ask-preserved g c =
    let is = c.in_ok-reply.ensures in
    record {
      so_far = next-answered g.L.LinkStep.link_of g.L.LinkStep.stands_for c.args.link.now c.loop-ask.link c.step.new.self c.args.asks.now c.loop-ask.ask-index c.loop-ask.replies.items c.push_reserved.new.self.items c.ask-item.result c.in_ok-reply.reply
          c.loop-ask-test.true c.ask-item.is c.loop-ask.invariant.so_far is.same is.legal is.entered (c.push_reserved.ensures.items ∙ ap (λ rs. rs ++ c.in_ok-reply.reply ∷ []) c.reserve.ensures.items);
      clock = (let was = c.loop-ask.invariant.clock in let step = is.ticked ∙ clock-step c.ask-item.result (g.L.LinkStep.clock_at c.loop-ask.link) in let more = ticks-more c.args.asks.now c.loop-ask.ask-index c.ask-item.result c.loop-ask-test.true c.ask-item.is in omega (arith, was, step, more));
    }

pub step-requires-clause-early : goal.step-requires-clause-early
step-requires-clause-early g c = (let was = c.loop-ask.invariant.clock in let front = ticks-front c.args.asks.now c.loop-ask.ask-index in let early = c.requires.early in omega (arith, was, front, early))
