use Rattle.setup_points.proofs.Fronts.{IsFront}
use Rattle.setup_points.proofs.front.items_until.Given as goal

-- the items so far, and how many steps are left
abbrev pub invariant-loop-item : goal.invariant-loop-item
invariant-loop-item l = IsFront l.items l.steps l.item-index l.front.items l.left
