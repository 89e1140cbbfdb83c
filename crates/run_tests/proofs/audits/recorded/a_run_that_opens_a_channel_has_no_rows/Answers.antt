-- Each tick of the run is early.
use Rattle.run_tests.proofs.EarlyRun.{ticks-are-early}
use Rattle.run_tests.proofs.audits.recorded.a_run_that_opens_a_channel_has_no_rows.Goals as goal

pub rows-requires : goal.rows-requires
rows-requires c d =
    let stands = d.step-4.ensures.stands in
    let made = d.finish-run.ensures.guaranteed d.in_ok-plan.plan stands in
    record { early = ticks-are-early d.in_ok-plan.plan d.finish-run.result.entries stands.plan made.run_is }
