-- The parts may be planned.
use Rattle.one_link_plans.proofs.OneLinkFits.{split-planned}
use Rattle.one_link_plans.proofs.plans.plan.Goals as goal

pub new-requires : goal.new-requires
new-requires c =
    rw (c.in_ok-push.ensures.items, c.in_ok-push_request.ensures.ok, c.in_ok-push-2.ensures.items, c.new-links.ensures.items, c.new-requests.ensures.items, c.new-callers.ensures.items)
    (split-planned c.args.version c.args.link c.args.groups.items c.args.request c.args.caller c.args.rounds 0 c.requires.link c.requires.request c.requires.script)
