-- Nobody has a step left after the turns that were made.
use Rattle.std.proofs.Common.{sym, subst}
use Rattle.run_engine.specs.schedules.Standing.{CallersStand}
use Rattle.load_maker.proofs.turns.take_watched_turns.Goals as goal

pub make_turns-requires : goal.make_turns-requires
make_turns-requires g c = record { stands = c.in_ok-engine.ensures; seen = c.requires }

pub returns-clause-turns : goal.returns-clause-turns
returns-clause-turns g c =
    let made = c.in_ok-make_turns.ensures.turns in
    record {
      run = made.run;
      plan = made.stand.stands.plan;
      turns = record { run_is = made.stand.stands.run; turns = made.turns; over = made.over };
      seen = record { stand = subst (λ cs. CallersStand c.args.plan.now cs made.run) (sym c.into_callers.ensures) made.stand.stands.actors.callers; seen = made.stand.seen };
    }
