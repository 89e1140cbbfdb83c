use Rattle.std.proofs.Common.{[], refl, sym, subst, reverse, ◌∙◌, arith}
use Rattle.call_script.specs.Tasks.{network_of}
use Rattle.race_run.specs.Turns.{AreMaximalRuns, actors_of}
use Rattle.race_run.proofs.PieceSteps.OneMoreTurn.{runs-none}
use Rattle.race_run.proofs.Weave.ToldInOrder.{counts-first, order-at, turns-few, weave-first}
use Rattle.race_run.proofs.telling.tell.Goals as goal

pub loop-number-init : goal.loop-number-init
loop-number-init g c =
    let first = weave-first c.args.journals.now in
    record {
      so_far = record {
        counts = counts-first c.args.journals.now c.in_ok-told.told.items (c.in_ok-told.ensures.items_if_clones_equal (λ y same. same));
        runs = subst (λ run. AreMaximalRuns (actors_of (reverse run)) c.new-items.result.items) (sym first) (subst (AreMaximalRuns []) (sym c.new-items.ensures.items) runs-none);
        seen = subst (g.W.Watch.saw c.args.watch.now c.args.plan.now) (sym first) c.requires.fresh;
      };
      table = refl;
    }

pub tell_next-requires-clause-next : goal.tell_next-requires-clause-next
tell_next-requires-clause-next g c =
    (c.loop-number.number-index, record { so_far = c.loop-number.invariant.so_far; number = order-at c.args.journals.now c.args.order.now c.loop-number.number-index _ _ c.requires.order c.loop-number-test.true c.from-place.ensures })

pub tell_next-requires-clause-few : goal.tell_next-requires-clause-few
tell_next-requires-clause-few g c =
    let few = turns-few (network_of c.args.plan.now) c.requires.whole.0 c.args.journals.now c.loop-number.number-index c.loop-number.items.items c.requires.whole.1 c.loop-number.invariant.so_far.runs in
    omega (arith, few, c.loop-number-test.true)

pub loop-number-preserved : goal.loop-number-preserved
loop-number-preserved g c = record {
  so_far = c.in_ok-tell_next.ensures.told c.loop-number.number-index (record { so_far = c.loop-number.invariant.so_far; number = order-at c.args.journals.now c.args.order.now c.loop-number.number-index _ _ c.requires.order c.loop-number-test.true c.from-place.ensures });
  table = c.in_ok-tell_next.ensures.table ∙ c.loop-number.invariant.table;
}
