use Rattle.std.proofs.Common.{ℕ, ◌+◌, ◌<◌, ◌≤◌, slice_index}
use Rattle.traffic_contract.proofs.contract.is_spaced.Given as goal

-- the entries before place i are far enough apart
abbrev pub invariant-loop-i : goal.invariant-loop-i
invariant-loop-i l = (k : ℕ) → k + l.gap < l.i → slice_index l.ticks k + l.least ≤ slice_index l.ticks (k + l.gap)
