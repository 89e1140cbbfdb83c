use Rattle.std.proofs.Common.{◌≡◌, length, take}
use Rattle.link_fill.specs.Fills.{AreAsked}
use Rattle.link_fill.proofs.crossing.asked_rows.Given as goal

-- the rows are those of the requests seen so far
abbrev pub invariant-loop-crossing : goal.invariant-loop-crossing
invariant-loop-crossing l = record {
  asked : AreAsked (take l.crossing-index l.crossings) l.rows.items;
  number : length l.rows.items ≡ l.crossing-index;
}
