-- Each turn of the look takes one due packet over.
use Rattle.std.proofs.Common.{◌≡◌, length}
use Rattle.link_server.proofs.Words.{IsPermutation}
use Rattle.link_server.specs.Line.{waiting_in, later_in, room_in}
use Rattle.link_server.proofs.queue.line.Line.look.Given as goal

-- the packets are in line, each in one of the two parts
abbrev pub invariant-loop : goal.invariant-loop
invariant-loop l = record {
  waiting : IsPermutation (waiting_in l.fn.self) (waiting_in l.self);
  room : room_in l.self ≡ room_in l.fn.self;
  until : l.self.until ≡ l.tick;
}

-- each turn moves one
abbrev pub decreases-loop : goal.decreases-loop
decreases-loop l = length (later_in l.self)
