use Rattle.std.proofs.Common.{◌≡◌, take, drop}
use Rattle.hop_reservation.specs.Routes.{repeated_in, repeated_from}
use Rattle.hop_reservation.proofs.route.repeated.Given as goal

-- the answer for all hops is that of the search after those of the turns so far
abbrev pub invariant-loop-index : goal.invariant-loop-index
invariant-loop-index l = repeated_in l.hops ≡ repeated_from (take l.index l.hops) (drop l.index l.hops)
