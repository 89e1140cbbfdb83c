use Rattle.std.proofs.Common.{take}
use Rattle.link_steps.specs.Lists.{Each}
use Rattle.link_ledger.specs.Tokens.{Token}
use Rattle.race_run.specs.Tail.{AreUpTo}
use Rattle.race_run.proofs.tail.latest_of_all.Given as goal

-- no stamp so far is above it
abbrev pub invariant-loop-pass : goal.invariant-loop-pass
invariant-loop-pass l = Each (λ (p : Token). AreUpTo l.stamp p.own) (take l.pass-index l.passes)
