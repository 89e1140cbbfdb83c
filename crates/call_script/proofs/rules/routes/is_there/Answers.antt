-- The hop at hand.
use Rattle.std.proofs.Common.{◌≡◌, ◌+◌, ◌-◌, ap, sym, ◌∙◌, arith}
use Rattle.std.specs.List.{slice_get}
use Rattle.call_script.specs.Rules.{has_link}
use Rattle.call_script.proofs.Walks.{all-skip-at, all-stop-at}
use Rattle.call_script.proofs.rules.routes.is_there.Goals as goal

pub returns-then-not-has_link : goal.returns-then-not-has_link
returns-then-not-has_link c =
    let here : c.loop-index.index + 1 - 1 ≡ c.loop-index.index = omega arith in
    sym (c.loop-index.invariant ∙ all-stop-at (λ hop. has_link c.args.links.now hop.link) c.args.route.now c.loop-index.index c.hop.result
    (ap (slice_get c.args.route.now) (sym here) ∙ c.hop.ensures.value) (sym c.has_link.ensures ∙ c.if-not-has_link.true))

pub loop-index-preserved : goal.loop-index-preserved
loop-index-preserved c =
    let here : c.loop-index.index + 1 - 1 ≡ c.loop-index.index = omega arith in
    c.loop-index.invariant ∙ all-skip-at (λ hop. has_link c.args.links.now hop.link) c.args.route.now c.loop-index.index c.hop.result
    (ap (slice_get c.args.route.now) (sym here) ∙ c.hop.ensures.value) (sym c.has_link.ensures ∙ c.if-not-has_link.false)
