use Rattle.std.proofs.Common.{sym, ◌∙◌}
use Rattle.call_script.specs.declared.version.Version.TheVariants.{One}
use Rattle.race_run_tests.proofs.WorkedRaces.{worked-planned}
use Rattle.race_run_tests.proofs.tests.plan.Goals as goal

pub new-requires : goal.new-requires
new-requires c =
    rw c.new-groups.ensures.items
    (worked-planned One c.in_ok-links.links.items c.in_ok-requests.requests.items c.in_ok-callers.callers.items c.args.rounds.0 c.args.rounds.1
    c.in_ok-links.ensures c.in_ok-requests.ensures.all c.in_ok-callers.ensures.all (c.in_ok-callers.ensures.count ∙ sym c.in_ok-requests.ensures.count))
