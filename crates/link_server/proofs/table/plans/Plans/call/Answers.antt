-- Each entry that is due gives its row a turn, or is no row's for this tick.
use Rattle.std.proofs.Common.{length, sym, ◌∙◌, subst, arith}
use Rattle.std.specs.Vec.{vec_capacity}
use Rattle.link_server.specs.Plans.{AreCalled}
use Rattle.link_server.proofs.Calendars.PlanRows.{none-called, called-more, called-rests}
use Rattle.link_server.proofs.Waiting.Rising.{rising-wider}
use Rattle.link_server.proofs.table.plans.Plans.call.Goals as goal

pub loop-number-init : goal.loop-number-init
loop-number-init c = record {
  called = subst (λ turns. AreCalled c.args.clock c.args.self.now.calendar turns c.args.rows.now.items) (sym c.clear.ensures.items) (none-called c.args.clock c.args.self.now.calendar c.args.rows.now.items c.requires.planned);
  capacity = c.clear.ensures.capacity;
}

pub add_turn-requires-clause-rising : goal.add_turn-requires-clause-rising
add_turn-requires-clause-rising c = rising-wider 0 (length c.args.rows.now.items) (vec_capacity c.loop-number.self.turns) c.loop-number.self.turns.items (omega (arith, c.requires.room, c.loop-number.invariant.capacity)) c.loop-number.invariant.called.rising

pub loop-number-preserved-in-Some-planned_place : goal.loop-number-preserved-in-Some-planned_place
loop-number-preserved-in-Some-planned_place c =
    let called = c.loop-number.invariant.called in
    record {
      called =
          called-more c.args.clock c.in-Some.number c.in-Some-planned_place.place c.loop-number.self.calendar c.take_due.new.self c.loop-number.self.turns.items c.add_turn.new.turns.items c.args.index.now.keys.items c.args.rows.now.keys c.args.rows.now.items
          called c.requires.indexed c.in-Some.ensures.taken c.in-Some.ensures.spare c.take_due.ensures.clock c.in-Some-planned_place.ensures.some
          (c.add_turn.ensures.rising (length c.args.rows.now.items) called.rising c.in-Some-planned_place.ensures.some.inside)
          c.add_turn.ensures.called c.add_turn.ensures.others c.add_turn.ensures.one;
      capacity = c.add_turn.ensures.capacity ∙ c.loop-number.invariant.capacity;
    }

pub loop-number-preserved : goal.loop-number-preserved
loop-number-preserved c =
    let spare = c.in-Some.ensures.spare in
    record {
      called =
          called-rests c.args.clock c.in-Some.number c.loop-number.self.calendar c.take_due.new.self c.loop-number.self.turns.items c.args.rows.now.items
          c.loop-number.invariant.called c.requires.ready c.in-Some.ensures.taken (omega (arith, spare)) c.take_due.ensures.clock c.in_default-planned_place.ensures.none;
      capacity = c.loop-number.invariant.capacity;
    }
