use Rattle.std.proofs.Common.{◌≡◌, ◌*◌, ◌≤◌, take}
use Rattle.net_units.specs.Allotted.{levels_of}
use Rattle.hop_reservation.specs.Offers.{delay_over}
use Rattle.setup_protocol.proofs.setup.delay_at.Given as goal

-- the delay over the hops of the turns so far
abbrev pub invariant-loop-index : goal.invariant-loop-index
invariant-loop-index l = record {
  sum : l.sum ≡ delay_over l.route (take l.index (levels_of l.levels));
  small : l.sum ≤ l.index * 8589934592;
}
