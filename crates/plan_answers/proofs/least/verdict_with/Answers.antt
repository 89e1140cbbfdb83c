use Rattle.std.proofs.Common.{◌≡◌, ◌<◌, Some, length, map, sym, subst, ◌∙◌, arith}
use Rattle.std.proofs.lemmas.List.{length-map}
use Rattle.std.specs.List.{slice_get}
use Rattle.link_steps.proofs.ListParts.{stands-at}
use Rattle.call_script.specs.Parts.{PlanParts}
use Rattle.question_plans.specs.Alone.{alone_of, changed}
use Rattle.plan_answers.specs.Trials.{IsRunOf, run_in}
use Rattle.plan_answers.proofs.least.verdict_with.Goals as goal

pub returns : goal.returns
returns c =
    let trial = c.in_ok-trial.trial in
    let same : trial.plan ≡ alone_of c.args.change.now c.args.plan.now = c.in_ok-trial.ensures.plan ∙ c.in_ok-requests_alone.ensures in
    let wanted = map (changed c.args.change.now) c.args.plan.now.requests in
    let inside : c.args.number < length wanted = omega (arith, length-map c.args.plan.now.requests (changed c.args.change.now), c.requires.inside) in
    let found = stands-at wanted c.args.number inside in
    record {
      run = run_in trial;
      played = subst (λ (parts : PlanParts). IsRunOf parts (run_in trial)) same c.in_ok-trial.ensures.trial.played;
      entry = found.0;
      asked = found.1;
      is = c.verdict.ensures found.0 (subst (λ (parts : PlanParts). slice_get parts.requests c.args.number ≡ Some found.0) (sym same) found.1);
    }
