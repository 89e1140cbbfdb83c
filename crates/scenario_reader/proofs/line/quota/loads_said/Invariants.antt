use Rattle.std.proofs.Common.{◌≡◌, ◌++◌, ◌∷◌, [], map, take, drop}
use Rattle.line_forms.specs.Values.{number_in}
use Rattle.scenario_reader.proofs.line.quota.loads_said.Given as goal

-- the loads so far stand in the cells, before zeros
abbrev pub invariant-loop-place : goal.invariant-loop-place
invariant-loop-place l = l.cells ≡ map number_in (take l.place l.run) ++ drop l.place (0 ∷ 0 ∷ 0 ∷ 0 ∷ 0 ∷ 0 ∷ 0 ∷ 0 ∷ [])
