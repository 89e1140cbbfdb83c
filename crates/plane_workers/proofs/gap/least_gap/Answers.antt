-- One more route.
use Rattle.std.proofs.Common.{◌+◌, List, ◌∷◌, [], take, sym, subst, arith}
use Rattle.call_script.proofs.Walks.{before-at}
use Rattle.call_script.specs.declared.entries.RequestEntry.{RequestEntry}
use Rattle.link_steps.specs.Lists.{Each}
use Rattle.link_steps.proofs.SearchAndFilter.{Each-append}
use Rattle.plane_workers.specs.Gaps.{IsSpaced}
use Rattle.plane_workers.proofs.LinksAtDesks.{each-closer}
use Rattle.plane_workers.proofs.gap.least_gap.Goals as goal

pub loop-entry-preserved : goal.loop-entry-preserved
loop-entry-preserved c =
    let gap = c.gap_over-gap.result in
    let items : List RequestEntry = c.requests-entry-items.result.now in
    let i = c.loop-entry.entry-index in
    record {
      small = (let small = c.loop-entry.invariant.small in let less = c.gap_over-gap.ensures.less in omega (arith, small, less));
      spaced = subst (λ (es : List RequestEntry). Each (λ (entry : RequestEntry). IsSpaced gap entry.request.route) (take (i + 1) es)) c.requests-entry-items.ensures.value
          (subst (Each (λ (entry : RequestEntry). IsSpaced gap entry.request.route)) (sym (before-at items i c.entry-item.result c.loop-entry-test.true c.entry-item.is))
          (Each-append (λ (entry : RequestEntry). IsSpaced gap entry.request.route) (take i items) (c.entry-item.result ∷ [])
          (each-closer gap c.loop-entry.gap (take i items) c.gap_over-gap.ensures.less (subst (λ (es : List RequestEntry). Each (λ (entry : RequestEntry). IsSpaced c.loop-entry.gap entry.request.route) (take i es)) (sym c.requests-entry-items.ensures.value) c.loop-entry.invariant.spaced))
          (c.gap_over-gap.ensures.spaced, tt)));
    }
