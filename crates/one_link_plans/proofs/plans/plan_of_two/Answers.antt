-- The parts may be planned.
use Rattle.one_link_plans.proofs.OneLinkFits.{two-planned}
use Rattle.one_link_plans.proofs.plans.plan_of_two.Goals as goal

pub new-requires-2 : goal.new-requires-2
new-requires-2 c =
    rw (c.in_ok-push.ensures.items, c.in_ok-push_request-2.ensures.ok, c.in_ok-push_request.ensures.ok, c.in_ok-push-2.ensures.items, c.new-links.ensures.items, c.new.ensures.items, c.new-requests.ensures.items, c.new-callers.ensures.items)
    (two-planned c.args.version c.args.link c.args.first c.args.second c.args.caller c.args.rounds 0 c.requires.link c.requires.first c.requires.second c.requires.script)
