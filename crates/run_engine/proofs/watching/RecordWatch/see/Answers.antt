-- The entry is recorded after the others.
use Rattle.std.proofs.Common.{◌-◌, ◌∷◌, ap, ◌∙◌}
use Rattle.run_engine.proofs.Keeping.NextStep.{recorded}
use Rattle.run_engine.proofs.watching.RecordWatch.see.Goals as goal

pub returns-clause-seen : goal.returns-clause-seen
returns-clause-seen c = λ past next.
    recorded c.args.self.now c.reserve.new.self c.push.new.self c.args.done.now c.reserve.new.self.spare (c.reserve.new.self.spare - 1) c.reserve.ensures.kept c.push.ensures ∙ ap (λ run. c.args.done.now ∷ run) next.seen
