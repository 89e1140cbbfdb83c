-- The run that was played is the one that the tally has seen.
use Rattle.std.proofs.Common.{◌∙◌}
use Rattle.interleave_core.proofs.Channels.GuaranteeLaw.{plan-guaranteed}
use Rattle.tenet_app.proofs.working.tallied.Goals as goal

pub returns-clause-played : goal.returns-clause-played
returns-clause-played g c =
    let played = c.in_ok-callers.ensures.played in
    record {
      run = played.run;
      played = played.played;
      guaranteed = plan-guaranteed c.args.plan.now played.run played.plan played.run_is;
      tallied = record { is_run = played.run_is; stand = played.seen.stand; tallied = played.seen.seen };
    }

pub returns-clause-table : goal.returns-clause-table
returns-clause-table g c = c.in_ok-callers.ensures.table ∙ c.in_ok-tally.ensures.packets
