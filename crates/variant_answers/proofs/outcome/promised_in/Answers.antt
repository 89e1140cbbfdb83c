use Rattle.std.proofs.Common.{◌<◌, List, length, option_map, subst}
use Rattle.call_script.specs.declared.entries.RequestEntry.{RequestEntry}
use Rattle.plan_answers.specs.Trials.{run_in}
use Rattle.setup_protocol.specs.State.{outcome_of}
use Rattle.variant_answers.proofs.PromisesKept.{promised-more}
use Rattle.variant_answers.proofs.outcome.promised_in.Goals as goal

pub loop-number-preserved : goal.loop-number-preserved
loop-number-preserved c =
    promised-more (run_in c.args.trial.now) c.args.trial.now.plan.requests c.loop-number.number (option_map outcome_of c.verdict.result) c.promised_by.result c.loop-number.delays.items c.push.new.self.items
    (subst (λ (entries : List RequestEntry). c.loop-number.number < length entries) c.requests-entries.ensures.value c.loop-number-test.true)
    c.verdict.ensures c.promised_by.ensures c.loop-number.invariant c.in_ok-push.ensures.items
