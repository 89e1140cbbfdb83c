-- It stands for no replies.
use Rattle.call_script.proofs.CallerTakesReply.{fresh-stands}
use Rattle.call_script.proofs.actor.Actor.new.Goals as goal

pub returns-clause-stands : goal.returns-clause-stands
returns-clause-stands c =
    fresh-stands c.args.plan.now c.begin.new.self c.args.caller c.ops_of.result.now c.requests-requests.result.now c.in_ok-channels.channels.by_number.items c.ops_of.ensures c.requests-requests.ensures.value c.begin.ensures.caller
    c.in_ok-channels.ensures.none c.in_ok-channels.ensures.count c.begin.ensures.stands
