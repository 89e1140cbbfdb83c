-- One more round is recorded.
use Rattle.std.proofs.Common.{◌+◌, reverse, refl, ap, ◌∙◌}
use Rattle.run_engine.specs.schedules.Quiet.{quiet_round}
use Rattle.run_engine.proofs.Watched.WatchedStrides.{no-rounds, rounds-more}
use Rattle.run_engine.proofs.quiet.record_rounds.Goals as goal

pub loop-passed-init : goal.loop-passed-init
loop-passed-init c = no-rounds c.args.plane c.args.links c.args.first (reverse c.args.kept.now.entries) (reverse c.args.kept.now.entries) refl

pub loop-passed-preserved : goal.loop-passed-preserved
loop-passed-preserved c =
    c.in_ok-record_round.ensures ∙ ap (quiet_round c.args.plane (c.args.first + c.loop-passed.passed) c.args.links) c.loop-passed.invariant ∙ rounds-more c.args.plane c.args.links c.args.first c.loop-passed.passed (reverse c.args.kept.now.entries)
