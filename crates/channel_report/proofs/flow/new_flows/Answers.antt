-- One more request has a flow, and then all.
use Rattle.std.proofs.Common.{length, refl, sym, ap, ◌∙◌, arith}
use Rattle.std.proofs.lemmas.List.{length_push}
use Rattle.std.specs.List.{slice_get}
use Rattle.channel_report.proofs.FlowsKept.{flows-are, flows-push}
use Rattle.channel_report.proofs.LinesByItem.{found-item}
use Rattle.channel_report.proofs.flow.new_flows.Goals as goal

pub loop-entry-preserved : goal.loop-entry-preserved
loop-entry-preserved c =
    let was = c.loop-entry.invariant in
    let here = ap (slice_get c.requests-entry-items.result.now) was.count ∙ found-item c.requests-entry-items.result.now c.loop-entry.entry-index c.entry-item.result c.loop-entry-test.true c.entry-item.is in
    record {
      count = (let long = ap length c.in_ok-push.ensures.items ∙ length_push c.loop-entry.flows.items c.new.result in let count = was.count in omega (arith, long, count));
      keeps = λ n entry flow found at.
          flows-push c.requests-entry-items.result.now c.loop-entry.flows.items c.entry-item.result c.new.result here (c.new.ensures (length c.loop-entry.flows.items) c.entry-item.result.request refl) was.keeps n entry flow found
          (ap (λ fs. slice_get fs n) (sym c.in_ok-push.ensures.items) ∙ at);
    }

pub returns : goal.returns
returns c =
    let was = c.loop-entry.invariant in
    let past = c.loop-entry-test.false in
    let end = c.loop-entry.auto.entry-index-end in
    let count = was.count in
    flows-are c.args.plan.now.requests c.requests-entry-items.result.now c.loop-entry.flows.items c.requests-entry-items.ensures.value (omega (arith, past, end, count)) was.keeps
