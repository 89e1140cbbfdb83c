-- Two neighbours of the route.
use Rattle.std.proofs.Common.{◌≡◌, ◌+◌, ◌-◌, ap, sym, ◌∙◌, arith}
use Rattle.std.specs.List.{slice_get}
use Rattle.call_script.proofs.Walks.{joined-skip, joined-stop}
use Rattle.scenario_reader.proofs.draft.Draft.is_joined.Goals as goal

pub returns-then-not-meets : goal.returns-then-not-meets
returns-then-not-meets c =
    let here : c.loop-index.index + 1 - 1 ≡ c.loop-index.index = omega arith in
    let next : c.loop-index.index + 2 - 1 ≡ c.loop-index.index + 1 = omega arith in
    sym (c.loop-index.invariant ∙ joined-stop c.args.self.now.links c.args.route.now c.loop-index.index c.hop.result c.hop-in-loop-index.result
    (ap (slice_get c.args.route.now) (sym here) ∙ c.hop.ensures.value) (ap (slice_get c.args.route.now) (sym next) ∙ c.hop-in-loop-index.ensures.value)
    (sym c.meets.ensures ∙ c.if-not-meets.true))

pub loop-index-preserved : goal.loop-index-preserved
loop-index-preserved c =
    let here : c.loop-index.index + 1 - 1 ≡ c.loop-index.index = omega arith in
    let next : c.loop-index.index + 2 - 1 ≡ c.loop-index.index + 1 = omega arith in
    c.loop-index.invariant ∙ joined-skip c.args.self.now.links c.args.route.now c.loop-index.index c.hop.result c.hop-in-loop-index.result
    (ap (slice_get c.args.route.now) (sym here) ∙ c.hop.ensures.value) (ap (slice_get c.args.route.now) (sym next) ∙ c.hop-in-loop-index.ensures.value)
    (sym c.meets.ensures ∙ c.if-not-meets.false)
