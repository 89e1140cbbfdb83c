use Rattle.std.proofs.Common.{◌≡◌, ◌+◌, ◌-◌, ◌∷◌, ◌++◌, [], length}
use Rattle.link_steps.specs.Room.{all_from}
use Rattle.call_script.specs.Groups.{level_fits}
use Rattle.call_script.proofs.rules.quotas.fit_with.Given as goal

-- the levels so far fit, so those left decide
abbrev pub invariant-loop-index : goal.invariant-loop-index
invariant-loop-index l = all_from (level_fits l.shape (l.quotas ++ l.more ∷ [])) 1 (length l.shape.bounds) ≡ all_from (level_fits l.shape (l.quotas ++ l.more ∷ [])) (l.index + 1) (length l.shape.bounds - l.index)
