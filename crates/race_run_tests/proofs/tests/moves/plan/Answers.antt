-- The parts may be planned.
use Rattle.call_script.specs.declared.version.Version.TheVariants.{Six}
use Rattle.race_run_tests.proofs.WorkedRaces.{moving-planned}
use Rattle.race_run_tests.proofs.tests.moves.plan.Goals as goal

pub new-requires : goal.new-requires
new-requires c =
    rw c.new-groups.ensures.items
    (moving-planned Six c.in_ok-links.links.items c.in_ok-requests.requests.items c.in_ok-callers.callers.items 80 0 c.in_ok-links.ensures c.in_ok-requests.ensures.all c.in_ok-requests.ensures.count c.in_ok-callers.ensures)
