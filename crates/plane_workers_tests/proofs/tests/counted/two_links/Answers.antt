-- The parts may be planned.
use Rattle.call_script.specs.declared.version.Version.TheVariants.{One}
use Rattle.plane_workers_tests.proofs.TwoLinks.{two-planned}
use Rattle.plane_workers_tests.proofs.tests.counted.two_links.Goals as goal

pub new-requires-4 : goal.new-requires-4
new-requires-4 c =
    rw (c.in_ok-push-2.ensures.items, c.in_ok-push.ensures.items, c.new-links.ensures.items, c.new.ensures.items, c.new-2.ensures.items, c.new-3.ensures.items)
    (two-planned One c.in_ok-entry.field-0 c.in_ok-entry-2.field-0 c.args.rounds 0 c.in_ok-entry.ensures.number c.in_ok-entry-2.ensures.number c.in_ok-entry.ensures.unsplit c.in_ok-entry-2.ensures.unsplit)
