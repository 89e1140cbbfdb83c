use Rattle.std.proofs.Common.{◌≡◌, ◌++◌, map, take, drop}
use Rattle.rcsp_admission.specs.Index.{moved_up}
use Rattle.rcsp_admission.proofs.key_index.move_up.Given as goal

-- the places seen so far have moved
abbrev pub invariant-loop-kept : goal.invariant-loop-kept
invariant-loop-kept l = l.places ≡ map (moved_up l.left) (take l.kept-index l.initial.places) ++ drop l.kept-index l.initial.places
