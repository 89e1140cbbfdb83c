use Rattle.std.proofs.Common.{◌≡◌, reverse, take}
use Rattle.net_units.specs.Numbers.{channel_number}
use Rattle.setup_points.specs.Starts.{setup_end}
use Rattle.setup_points.proofs.run.end_among.Given as goal

-- the end among the entries so far
abbrev pub invariant-loop-place : goal.invariant-loop-place
invariant-loop-place l = l.end ≡ setup_end (channel_number l.chan) (reverse (take l.place l.entries))
