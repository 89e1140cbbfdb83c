use Rattle.std.proofs.Common.{◌≡◌, ◌∙◌, Option, None, ap, arith, replicate}
use Rattle.net_units.specs.declared.levels.Levels.{Levels}
use Rattle.scenario_reader.proofs.audit.draft.no_levels.Goals as goal

pub returns : goal.returns
returns c =
    let all : c.loop.counter ≡ c.args.count = omega (arith, c.loop-test.false, c.loop.auto.counter-end) in
    c.loop.invariant ∙ ap (λ n. replicate {A = Option Levels} n None) all
