use Rattle.std.proofs.Common.{◌+◌, ◌-◌}
use Rattle.byte_ends.proofs.Blocks.{Reached}
use Rattle.byte_ends.proofs.lines.Lines.read_on.Given as goal

-- nothing was given so far, and the bytes taken decide nothing
abbrev pub invariant-loop-self : goal.invariant-loop-self
invariant-loop-self g l =
    Reached l.initial.self l.self (g.S.Source.left l.initial.source) (g.S.Source.left l.source) (g.S.Source.faults l.initial.source) (g.S.Source.faults l.source)

-- how many bytes may still be taken
abbrev pub decreases-loop-self : goal.decreases-loop-self
decreases-loop-self g l = l.self.most + 1 - l.self.taken
