-- One more tick is recorded.
use Rattle.std.proofs.Common.{◌-◌, ◌∷◌, reverse, refl, ap, ◌∙◌}
use Rattle.run_engine.specs.schedules.Quiet.{quiet_step}
use Rattle.run_engine.proofs.Keeping.NextStep.{recorded}
use Rattle.run_engine.proofs.Watched.WatchedStrides.{none-more, round-more}
use Rattle.run_engine.proofs.quiet.record_round.Goals as goal

pub loop-number-init : goal.loop-number-init
loop-number-init c = none-more c.args.plane c.args.round (reverse c.args.kept.now.entries) (reverse c.args.kept.now.entries) refl

pub loop-number-preserved : goal.loop-number-preserved
loop-number-preserved c =
    recorded c.loop-number.kept c.reserve.new.self c.push.new.self c.quiet_tick.result c.reserve.new.self.spare (c.reserve.new.self.spare - 1) c.reserve.ensures.kept c.push.ensures
    ∙ ap (λ done. done ∷ reverse c.loop-number.kept.entries) c.quiet_tick.ensures
    ∙ ap (λ run. quiet_step c.args.plane c.args.round c.loop-number.number ∷ run) c.loop-number.invariant
    ∙ round-more c.args.plane c.args.round c.loop-number.number (reverse c.args.kept.now.entries)
