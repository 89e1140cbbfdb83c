use Rattle.std.proofs.Common.{◌≡◌, true, reverse, take}
use Rattle.traffic_contract.specs.Keeping.{keeps_newest_first}
use Rattle.packet_answers.proofs.sources.first_break.Given as goal

-- the packets so far keep the contract
abbrev pub invariant-loop-tick : goal.invariant-loop-tick
invariant-loop-tick l = record {
  place : l.number ≡ l.tick-index;
  keeps : keeps_newest_first l.contract (reverse (take l.tick-index l.ticks)) ≡ true;
}
