-- One more request, if it is the caller's.
use Rattle.std.proofs.Common.{◌∙◌, length, ap, refl}
use Rattle.load_maker.proofs.LoopsMakeLoad.{no-requests, no-ops, no-draws, draws-more, chan-small, place-small, requests-more, ops-more, requests-stay, ops-stay}
use Rattle.load_maker.specs.Made.{request_entry_of}
use Rattle.load_maker.proofs.script.script.Goals as goal
use Rattle.load_maker.proofs.script.script.Goals.{then-n-from+in_ok-add_request+in_ok-push_ops, else-n-from}

pub loop-n-init : goal.loop-n-init
loop-n-init c = record {
  requests = no-requests c.args.number c.args.caller c.args.requests.now.items;
  ops = no-ops c.args.number (length c.args.requests.now.items) c.args.caller c.new-ops.result.items c.new-ops.ensures.items;
  state = no-draws c.args.number c.new-draws.result.state c.new-draws.ensures;
}

pub add_request-requires-clause-chan : goal.add_request-requires-clause-chan
add_request-requires-clause-chan c = chan-small c.args.number c.args.caller c.loop-n.n c.args.size c.len-chan.result c.args.requests.now.items c.loop-n.requests.items c.loop-n.invariant.requests (c.len-chan.ensures ∙ c.loop-n.requests.ok.0) c.requires.few c.loop-n-test.true c.requires.size

pub push_ops-requires : goal.push_ops-requires
push_ops-requires c = place-small c.args.number c.args.caller c.loop-n.n c.args.size c.len-chan.result c.len-first.result c.args.requests.now.items c.loop-n.requests.items c.loop-n.invariant.requests (c.len-chan.ensures ∙ c.loop-n.requests.ok.0) (c.len-first.ensures ∙ c.args.requests.now.ok.0) c.requires.few c.loop-n-test.true c.requires.size

pub loop-n-preserved : goal.loop-n-preserved
loop-n-preserved c = record {
  requests = elim c.if-n-from.branch [
    | then-n-from+in_ok-add_request+in_ok-push_ops w ↦
        requests-more c.args.number c.args.caller c.loop-n.n c.from.result w.len-chan.result c.loop-n.draws.state c.load-load.result (request_entry_of c.load-load.result c.loop-n.n c.args.caller w.len-chan.result) c.args.requests.now.items c.loop-n.requests.items c.if-n-from.requests.items
        w.if-n-from.true c.from.ensures c.load-load.ensures.value c.loop-n.invariant.state c.loop-n.invariant.requests (w.len-chan.ensures ∙ c.loop-n.requests.ok.0) refl (ap (λ v. v.items) w.requests-is ∙ w.in_ok-add_request.ensures)
    | else-n-from w ↦ requests-stay c.args.number c.args.caller c.loop-n.n c.from.result c.args.requests.now.items c.loop-n.requests.items c.if-n-from.requests.items w.if-n-from.false c.from.ensures c.loop-n.invariant.requests (ap (λ v. v.items) w.requests-is)
  ];
  ops = elim c.if-n-from.branch [
    | then-n-from+in_ok-add_request+in_ok-push_ops w ↦
        ops-more c.args.number c.args.caller c.loop-n.n c.from.result w.len-chan.result c.loop-n.draws.state c.len-first.result c.load-load.result c.args.requests.now.items c.loop-n.requests.items c.loop-n.ops.items c.if-n-from.ops.items
        w.if-n-from.true c.from.ensures c.load-load.ensures.value c.loop-n.invariant.state c.loop-n.invariant.requests (w.len-chan.ensures ∙ c.loop-n.requests.ok.0) (c.len-first.ensures ∙ c.args.requests.now.ok.0) c.loop-n.invariant.ops (ap (λ v. v.items) w.ops-is ∙ w.in_ok-push_ops.ensures)
    | else-n-from w ↦ ops-stay c.args.number (length c.args.requests.now.items) c.args.caller c.loop-n.n c.from.result c.loop-n.ops.items c.if-n-from.ops.items w.if-n-from.false c.from.ensures c.loop-n.invariant.ops (ap (λ v. v.items) w.ops-is)
  ];
  state = draws-more c.args.number c.loop-n.n c.loop-n.draws.state c.load-load.new.self.state c.loop-n.invariant.state c.load-load.ensures.state;
}
