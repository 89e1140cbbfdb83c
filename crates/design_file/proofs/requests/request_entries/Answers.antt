use Rattle.design_file.proofs.RequestsOneByOne.{no-requests, requests-more, all-requests}
use Rattle.design_file.proofs.requests.request_entries.Goals as goal

pub loop-stream-init : goal.loop-stream-init
loop-stream-init c = no-requests c.args.scale.now.tick c.args.scale.now.unit c.args.links.now c.args.streams.now c.new-entries.result.items c.new-entries.ensures.items

pub loop-stream-preserved : goal.loop-stream-preserved
loop-stream-preserved c =
    requests-more c.args.scale.now.tick c.args.scale.now.unit c.args.links.now c.args.streams.now c.loop-stream.stream-index c.stream-item.result c.loop-stream.entries.items c.add_request.new.entries.items
    c.loop-stream-test.true c.stream-item.is c.loop-stream.invariant c.in_ok-add_request.ensures

pub returns : goal.returns
returns c = all-requests c.args.scale.now.tick c.args.scale.now.unit c.args.links.now c.args.streams.now c.loop-stream.stream-index c.loop-stream.entries.items c.loop-stream-test.false c.loop-stream.invariant
