use Rattle.std.proofs.Common.{◌≡◌, false, map, take}
use Rattle.std.specs.List.{list_any}
use Rattle.field_units.specs.Serving.{pair_of}
use Rattle.design_scale.specs.Serving.{serves}
use Rattle.design_scale.proofs.choice.first_serving.Given as goal

-- none of those that were tried serves
abbrev pub invariant-loop-scale : goal.invariant-loop-scale
invariant-loop-scale l = list_any (serves l.parts l.run l.design) (map pair_of (take l.scale-index l.scales)) ≡ false
