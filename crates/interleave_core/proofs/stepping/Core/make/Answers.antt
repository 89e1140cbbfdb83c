-- The engine makes the step for the run that is recorded, and it is recorded.
use Rattle.std.proofs.Common.{◌-◌, ap, refl, sym, ◌∙◌}
use Rattle.run_engine.proofs.Words.{network_of, step}
use Rattle.run_engine.specs.schedules.Standing.{IsAboutTo}
use Rattle.interleave_core.specs.Cores.{run_in}
use Rattle.run_engine.proofs.Runs.RunOf.{step-is}
use Rattle.run_engine.proofs.Keeping.NextStep.{recorded}
use Rattle.interleave_core.proofs.stepping.Core.make.Goals as goal

pub returns-clause-made : goal.returns-clause-made
returns-clause-made c =
    let run = run_in c.args.self.now in
    let network = network_of c.args.plan.now in
    let about : IsAboutTo c.args.plan.now c.args.self.now.engine run c.args.actor c.args.link c.args.ask = record { stands = c.requires.stands; asks = c.requires.asks } in
    let made = c.in_ok-done.ensures.made run about in
    let is = recorded c.args.self.now.steps c.reserve.new.self c.push.new.self c.in_ok-done.done c.reserve.new.self.spare (c.reserve.new.self.spare - 1) c.reserve.ensures.kept c.push.ensures in
    record {
      done = c.in_ok-done.done;
      next = made.next;
      by = made.by;
      gets = refl;
      is = is;
      goes = is ∙ sym (step-is network run c.in_ok-done.done made.next) ∙ ap (λ a. step network a run) made.by;
    }
