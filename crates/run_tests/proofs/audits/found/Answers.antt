-- The request may be accepted at that level.
use Rattle.one_link_plans.proofs.OneLinkFits.{one-accepted}
use Rattle.run_tests.proofs.audits.found.Goals as goal

pub audit-requires-clause-accepted : goal.audit-requires-clause-accepted
audit-requires-clause-accepted c = one-accepted c.in_ok-plan.plan c.in_ok-level_one.field-0 c.in_ok-plan.ensures.request c.in_ok-level_one.ensures
