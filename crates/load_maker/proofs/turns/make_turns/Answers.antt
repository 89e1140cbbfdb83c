-- One more turn, until nobody has a step left, or the plane alone, which then makes its steps. A run is too short for the loop to end before.
use Rattle.std.proofs.Common.{refl, ◌∙◌, arith}
use Rattle.std.proofs.lemmas.Result.{on_ok_weaker}
use Rattle.net_units.specs.Numbers.{actor_number}
use Rattle.load_maker.proofs.PlaneTurns.{plane-alone}
use Rattle.load_maker.proofs.WatchedTurns.{circle-at, no-turns, one-turn, never-ending, next-within}
use Rattle.load_maker.proofs.turns.make_turns.Goals as goal

pub loop-init : goal.loop-init
loop-init g c = record { turns = no-turns g.W.Watch.saw c.args.plan.now c.args.engine.now c.args.watch.now c.requires; table = refl }

pub turn-requires-clause-stands : goal.turn-requires-clause-stands
turn-requires-clause-stands g c = (c.loop.invariant.turns.run, circle-at g.W.Watch.saw c.args.plan.now c.loop.engine c.loop.watch c.loop.next c.loop.counter c.loop.invariant.turns)

pub turn-requires-clause-within : goal.turn-requires-clause-within
turn-requires-clause-within g c = next-within g.W.Watch.saw c.args.plan.now c.loop.engine c.loop.watch c.loop.next c.loop.counter c.loop.invariant.turns

pub play_plane-requires : goal.play_plane-requires
play_plane-requires g c = (c.loop.invariant.turns.run, c.loop.invariant.turns.stand)

pub returns-then-is_plane_alone-clause-turns : goal.returns-then-is_plane_alone-clause-turns
returns-then-is_plane_alone-clause-turns g c =
    let turns = c.loop.invariant.turns in
    let at = circle-at g.W.Watch.saw c.args.plan.now c.loop.engine c.loop.watch c.loop.next c.loop.counter turns in
    let turn = c.in-Some.ensures.some turns.run at in
    let alone = c.if-is_plane_alone.true in
    on_ok_weaker c.play_plane.result
    (λ out. plane-alone g.W.Watch.saw c.args.plan.now c.loop.engine c.play_plane.new.engine c.loop.watch c.play_plane.new.watch c.loop.next c.loop.counter (actor_number c.in-Some.actor) turns (c.is_plane_alone.ensures.first alone) (c.is_plane_alone.ensures.plane alone) turn.turn
    (out turns.run turns.stand))
    c.play_plane.ensures.out

pub make_watched-requires : goal.make_watched-requires
make_watched-requires g c =
    let turns = c.loop.invariant.turns in
    let at = circle-at g.W.Watch.saw c.args.plan.now c.loop.engine c.loop.watch c.loop.next c.loop.counter turns in
    (turns.run, record { stand = turns.stand; asks = (c.in-Some.ensures.some turns.run at).asks })

pub returns-in-None-clause-turns : goal.returns-in-None-clause-turns
returns-in-None-clause-turns g c =
    let turns = c.loop.invariant.turns in
    record { run = turns.run; turns = turns.turns; over = c.in-None.ensures.none turns.run (circle-at g.W.Watch.saw c.args.plan.now c.loop.engine c.loop.watch c.loop.next c.loop.counter turns); stand = turns.stand }

pub loop-preserved : goal.loop-preserved
loop-preserved g c =
    let turns = c.loop.invariant.turns in
    let at = circle-at g.W.Watch.saw c.args.plan.now c.loop.engine c.loop.watch c.loop.next c.loop.counter turns in
    let turn = c.in-Some.ensures.some turns.run at in
    record {
      turns = one-turn g.W.Watch.saw c.args.plan.now c.loop.engine c.make_watched.new.engine c.loop.watch c.make_watched.new.watch c.loop.next _ c.loop.counter c.in-Some.actor c.in-Some.link c.in-Some.ask turns turn
          (c.in_ok-make_watched-in-Some.ensures.goes_on turns.run (record { stand = turns.stand; asks = turn.asks })) (omega (arith, c.from-next.ensures, c.get.ensures.value));
      table = c.in_ok-make_watched-in-Some.ensures.table ∙ c.loop.invariant.table;
    }

pub unreachable-requires : goal.unreachable-requires
unreachable-requires g c =
    let ending = never-ending g.W.Watch.saw c.args.plan.now c.loop.engine c.loop.watch c.loop.next c.loop.counter c.loop.invariant.turns in
    omega (arith, ending, c.loop-test.false)
