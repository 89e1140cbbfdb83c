use Rattle.std.proofs.Common.{◌≡◌, ◌-◌, length}
use Rattle.byte_ends.proofs.sink.put_all.Given as goal
use Rattle.byte_ends.proofs.Putting.{PutSoFar}

-- the first bytes of the piece were written, and the sink is as it was where none was
abbrev pub invariant-loop-done : goal.invariant-loop-done
invariant-loop-done g l =
    PutSoFar l.done l.piece (g.K.Sink.written l.initial.sink) (g.K.Sink.written l.sink) (g.K.Sink.faults l.initial.sink) (g.K.Sink.faults l.sink)
    × (l.done ≡ 0 → l.sink ≡ l.initial.sink)

-- how many bytes are still to be written
abbrev pub decreases-loop-done : goal.decreases-loop-done
decreases-loop-done g l = length l.initial.piece - l.done
