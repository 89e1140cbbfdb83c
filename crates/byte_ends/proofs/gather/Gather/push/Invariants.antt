use Rattle.std.proofs.Common.{◌≡◌, ◌≤◌, ◌+◌, ◌-◌, length, take}
use Rattle.byte_ends.proofs.gather.Gather.push.Given as goal
use Rattle.byte_ends.specs.Gathering.{Gathers, WritesBlocks}
use Rattle.byte_ends.specs.declared.block.TheConstants.{BLOCK}

-- the first bytes of the piece were gathered, and nothing was written where all of it fits
abbrev pub invariant-loop-done : goal.invariant-loop-done
invariant-loop-done g l = record {
  within : l.done ≤ length l.piece;
  gathers : Gathers (g.K.Sink.written l.initial.sink) (g.K.Sink.written l.sink) l.initial.self l.self (take l.done l.piece);
  counts : g.K.Sink.faults l.initial.sink ≤ g.K.Sink.faults l.sink;
  unwritten : length l.initial.self + length l.piece ≤ BLOCK → l.sink ≡ l.initial.sink;
  fitting : length l.initial.self + length l.piece ≤ BLOCK → length l.self ≡ length l.initial.self + l.done;
  blocks : WritesBlocks (g.K.Sink.written l.initial.sink) (g.K.Sink.written l.sink);
}

-- how many bytes of it are left
abbrev pub decreases-loop-done : goal.decreases-loop-done
decreases-loop-done g l = length l.initial.piece - l.done
