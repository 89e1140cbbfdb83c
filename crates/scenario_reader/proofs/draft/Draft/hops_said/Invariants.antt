use Rattle.std.proofs.Common.{◌≡◌, take, length}
use Rattle.scenario_reader.specs.line.Request.{hops_said}
use Rattle.scenario_reader.proofs.draft.Draft.hops_said.Given as goal

-- the hops are those over the links so far
abbrev pub invariant-loop-place : goal.invariant-loop-place
invariant-loop-place l = record {
  kept : l.hops ≡ hops_said l.self.links (take l.place l.run);
  count : length l.hops ≡ l.place;
}
