-- The flow of the packet's channel has it, if there is one.
use Rattle.std.proofs.Common.{◌<◌, length, sym, arith}
use Rattle.run_record.specs.Rows.{row_of}
use Rattle.channel_report.proofs.FlowsKept.{flow-few, flows-more, flows-off}
use Rattle.channel_report.proofs.LinesByItem.{found-item, on-ok}
use Rattle.channel_report.proofs.flow.pair_sent.Goals as goal

pub depart-requires : goal.depart-requires
depart-requires c =
    let inside : c.get-place.result < length c.args.flows.now.items = omega (arith, c.if-place-len.true, c.len.ensures) in
    let few = flow-few c.requires.0 c.requires.1 c.args.flows.now.items c.get-place.result c.index_mut.result.now c.requires.2.0 (found-item c.args.flows.now.items c.get-place.result c.index_mut.result.now inside c.index_mut.ensures.value) in
    omega (arith, few, c.requires.2.1)

pub returns-then-place-len : goal.returns-then-place-len
returns-then-place-len c = on-ok c.depart.result c.depart.ensures (λ goes requests rows links are.
    let inside : c.get-place.result < length c.args.flows.now.items = omega (arith, c.if-place-len.true, c.len.ensures) in
    flows-more requests rows (row_of links c.args.link c.args.clock c.args.sent.now) c.args.flows.now.items c.get-place.result c.index_mut.result.now c.depart.new.self are (sym c.get-place.ensures.value)
    (found-item c.args.flows.now.items c.get-place.result c.index_mut.result.now inside c.index_mut.ensures.value) (λ request keeps. goes c.get-place.result request rows links (sym c.get-place.ensures.value) keeps))

pub returns-else-place-len : goal.returns-else-place-len
returns-else-place-len c = λ requests rows links are.
    flows-off requests rows (row_of links c.args.link c.args.clock c.args.sent.now) c.args.flows.now.items are (omega (arith, c.if-place-len.false, c.len.ensures, c.get-place.ensures.value))
