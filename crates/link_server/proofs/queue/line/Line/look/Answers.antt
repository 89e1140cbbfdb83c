-- Each turn moves the packet that is due first, so the line has the same packets all along.
use Rattle.std.proofs.Common.{◌∙◌, arith}
use Rattle.std.proofs.lemmas.List.Sorted.{IsPermutation-trans, length_permutation}
use Rattle.link_server.specs.Line.{waiting_in}
use Rattle.link_server.proofs.queue.line.Line.look.Goals as goal

pub move_due-requires : goal.move_due-requires
move_due-requires c =
    let same = length_permutation (waiting_in c.args.self.now) (waiting_in c.loop.self) c.loop.invariant.waiting in
    let room = c.loop.invariant.room in
    record { room = omega (arith, same, room, c.requires.room) }

pub loop-preserved : goal.loop-preserved
loop-preserved c = record {
  waiting = IsPermutation-trans (waiting_in c.args.self.now) (waiting_in c.loop.self) (waiting_in c.move_due.new.self) c.loop.invariant.waiting c.move_due.ensures.waiting;
  room = c.move_due.ensures.room ∙ c.loop.invariant.room;
  until = c.move_due.ensures.until ∙ c.loop.invariant.until;
}

pub returns-clause-waiting : goal.returns-clause-waiting
returns-clause-waiting c = IsPermutation-trans (waiting_in c.args.self.now) (waiting_in c.loop.self) (waiting_in c.move_due.new.self) c.loop.invariant.waiting c.move_due.ensures.waiting
