use Rattle.std.proofs.Common.{◌≡◌, map, ap, subst, ◌∙◌}
use Rattle.call_script.specs.Parts.{PlanParts}
use Rattle.question_plans.specs.Alone.{alone_of}
use Rattle.question_plans.specs.declared.change.Change.TheVariants.{Nothing}
use Rattle.plan_answers.specs.Trials.{IsRunOf, run_in}
use Rattle.variant_answers.specs.Outcomes.{promised_in}
use Rattle.variant_answers.proofs.outcome.judged_of.Goals as goal

pub returns : goal.returns
returns c =
    let trial = c.in_ok-trial.trial in
    let same : trial.plan ≡ alone_of Nothing c.args.plan.now = c.in_ok-trial.ensures.plan ∙ c.in_ok-requests_alone.ensures in
    record {
      run = run_in trial;
      played = subst (λ (parts : PlanParts). IsRunOf parts (run_in trial)) same c.in_ok-trial.ensures.trial.played;
      promised = c.in_ok-promised.ensures ∙ ap (λ (parts : PlanParts). promised_in (run_in trial) parts.requests) same;
      named = c.in_ok-names.ensures ∙ ap (map (λ entry. entry.name)) c.requests.ensures.value ∙ ap (λ (parts : PlanParts). map (λ entry. entry.name) parts.requests) same;
    }
