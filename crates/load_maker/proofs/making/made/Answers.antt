-- One more caller; and the parts are those of a plan.
use Rattle.std.proofs.Common.{◌∙◌}
use Rattle.load_maker.proofs.LoopsMakeLoad.{nobody-yet, no-callers, caller-requests, caller-entries, requests-few, parts-are, plan-of}
use Rattle.load_maker.proofs.making.made.Goals as goal

pub loop-caller-init : goal.loop-caller-init
loop-caller-init c = record { requests = nobody-yet c.args.number c.args.size c.new-requests.result.items c.new-requests.ensures.items; callers = no-callers c.args.number c.args.size c.new-callers.result.items c.new-callers.ensures.items }

pub loop-caller-preserved : goal.loop-caller-preserved
loop-caller-preserved c = record {
  requests = caller-requests c.args.number c.args.size c.loop-caller.caller c.loop-caller.requests.items c.script.new.requests.items c.loop-caller.invariant.requests c.in_ok-ops.ensures.requests;
  callers =
      caller-entries c.args.number c.args.size c.loop-caller.caller c.loop-caller.requests.items c.short_name.result c.new.result c.loop-caller.callers.items c.push.new.self.items
      c.loop-caller.invariant.requests c.short_name.ensures (c.new.ensures ∙ c.in_ok-ops.ensures.ops) c.loop-caller.invariant.callers c.in_ok-push.ensures.items;
}

pub script-requires-clause-few : goal.script-requires-clause-few
script-requires-clause-few c = requests-few c.args.number c.args.size c.loop-caller.caller c.loop-caller.requests.items c.loop-caller.invariant.requests c.loop-caller-test.true c.requires.most

pub of_kept-requires : goal.of_kept-requires
of_kept-requires c = rw c.new-groups.ensures.items (plan-of c.args.number c.args.size _ c.requires.most (parts-are c.args.number c.args.size c.loop-caller.caller c.in_ok-links.links.items c.loop-caller.requests.items c.loop-caller.callers.items c.in_ok-links.ensures c.loop-caller.invariant.requests c.loop-caller.invariant.callers c.loop-caller-test.false c.loop-caller.auto.caller-end))
