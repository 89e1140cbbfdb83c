use Rattle.link_fill.specs.Fillings.{AreLevels}
use Rattle.link_fill.proofs.fill.levels_of.Given as goal

-- the levels seen so far
abbrev pub invariant-loop-index : goal.invariant-loop-index
invariant-loop-index l = AreLevels l.share l.held l.index l.levels.items
