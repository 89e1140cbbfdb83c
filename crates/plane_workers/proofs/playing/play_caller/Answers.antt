-- One more step, until none is left. A run is too short for the loop to end before.
use Rattle.std.proofs.Common.{refl, sym, ◌∙◌, arith}
use Rattle.run_engine.proofs.Watched.WatchedSteps.{never-ending, plays-again, plays-none, plays-one, plays-out}
use Rattle.plane_workers.proofs.playing.play_caller.Goals as goal

pub loop-init : goal.loop-init
loop-init g c = record { made = λ past stand. plays-none g.W.Watch.saw c.args.plan.now c.args.engine.now c.args.watch.now past c.args.actor stand; table = refl }

pub next_ask-requires : goal.next_ask-requires
next_ask-requires g c = let plays = c.loop.invariant.made c.requires.0 c.requires.1 in (plays.run, plays.stand.stands)

pub make_watched-requires : goal.make_watched-requires
make_watched-requires g c =
    let plays = c.loop.invariant.made c.requires.0 c.requires.1 in
    (plays.run, record { stand = plays.stand; asks = sym (c.next_ask.ensures plays.run plays.stand.stands) ∙ c.in-Some.is })

pub returns-in-None-clause-out : goal.returns-in-None-clause-out
returns-in-None-clause-out g c = λ past stand.
    let plays = c.loop.invariant.made past stand in
    plays-out g.W.Watch.saw c.args.plan.now c.loop.engine c.loop.watch past c.args.actor c.loop.counter plays (sym (c.next_ask.ensures plays.run plays.stand.stands) ∙ c.in-None.is)

pub loop-preserved : goal.loop-preserved
loop-preserved g c = record {
  made = λ past stand.
      plays-again g.W.Watch.saw c.args.plan.now c.loop.engine c.make_watched.new.engine c.loop.watch c.make_watched.new.watch past c.args.actor c.loop.counter (c.loop.invariant.made past stand)
      (λ run now.
      plays-one g.W.Watch.saw c.args.plan.now c.make_watched.new.engine c.make_watched.new.watch run c.args.actor
      (c.in_ok-make_watched-in-Some.ensures.goes_on run (record { stand = now; asks = sym (c.next_ask.ensures run now.stands) ∙ c.in-Some.is })));
  table = c.in_ok-make_watched-in-Some.ensures.table ∙ c.loop.invariant.table;
}

pub unreachable-requires : goal.unreachable-requires
unreachable-requires g c =
    let ending = never-ending g.W.Watch.saw c.args.plan.now c.args.engine.now c.loop.engine c.args.watch.now c.loop.watch c.requires.0 c.args.actor c.loop.counter c.requires.1 (c.loop.invariant.made c.requires.0 c.requires.1) in
    omega (arith, ending, c.loop-test.false)
