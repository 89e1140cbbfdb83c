-- The next ask is that of the task under way.
use Rattle.std.proofs.Common.{sym, ap, ◌∙◌}
use Rattle.call_script.specs.Scripts.{Standing, ask_at, standing}
use Rattle.call_script.specs.Standing.{requests_of}
use Rattle.call_script.specs.Tasks.{script_of}
use Rattle.call_script.proofs.CallerStanding.{stands-in}
use Rattle.call_script.proofs.actor.Actor.next_ask.Goals as goal

pub returns : goal.returns
returns c = λ replies stands.
    let at : Standing = standing (script_of (requests_of c.args._plan.now) stands.caller) replies in
    c.next_ask.ensures.asked at.tasks at.replies stands.at.under_way ∙ sym (ap ask_at (stands-in c.args._plan.now c.args.self.now replies stands))
