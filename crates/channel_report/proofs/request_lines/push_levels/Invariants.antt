use Rattle.std.proofs.Common.{◌≡◌, ◌-◌, ◌∷◌, ◌++◌, take, string_bytes}
use Rattle.std.specs.Fmt.{decimal}
use Rattle.std.specs.List.{flat_map}
use Rattle.net_units.specs.Allotted.{levels_of}
use Rattle.channel_report.proofs.request_lines.push_levels.Given as goal

-- the levels before this place are there
abbrev pub invariant-loop-place : goal.invariant-loop-place
invariant-loop-place l = string_bytes l.text ≡ string_bytes l.fn.text ++ flat_map (λ level. 32 ∷ decimal level) (take (l.place - 1) (levels_of l.levels))
