use Rattle.std.proofs.Common.{◌≡◌, ◌<◌, ◌≤◌, Option, true, false, List, Some, length, ap, sym, subst, ◌∙◌}
use Rattle.link_steps.proofs.ListParts.{stands-at}
use Rattle.setup_protocol.specs.Setup.{Outcome}
use Rattle.call_script.specs.declared.entries.RequestEntry.{RequestEntry}
use Rattle.plan_answers.specs.Trials.{is_acceptance, outcome_in}
use Rattle.answer_tables.proofs.RefusedTogether.{accepted-here, refused-here, none-refused}
use Rattle.setup_points.specs.Runs.{run_in}
use Rattle.setup_points.proofs.room.first_refused.Goals as goal

pub loop-at-preserved : goal.loop-at-preserved
loop-at-preserved c =
    let run = run_in c.args.run.now in
    let requests = c.args.plan.now.requests in
    let inside : c.loop-at.at < length requests = subst (λ (xs : List RequestEntry). c.loop-at.at < length xs) c.requests-at-end.ensures.value c.loop-at-test.true in
    let found = stands-at requests c.loop-at.at inside in
    let accepted : is_acceptance (outcome_in run found.0.request) ≡ true = ap is_acceptance (sym (c.verdict-verdict.ensures found.0 found.1)) ∙ sym c.is_acceptance.ensures ∙ c.if-not-is_acceptance.false in
    accepted-here run requests c.args.first c.loop-at.at found.0 found.1 accepted c.loop-at.invariant

pub returns-then-not-is_acceptance-clause-is : goal.returns-then-not-is_acceptance-clause-is
returns-then-not-is_acceptance-clause-is c =
    let run = run_in c.args.run.now in
    let requests = c.args.plan.now.requests in
    let inside : c.loop-at.at < length requests = subst (λ (xs : List RequestEntry). c.loop-at.at < length xs) c.requests-at-end.ensures.value c.loop-at-test.true in
    let found = stands-at requests c.loop-at.at inside in
    let refused : is_acceptance (outcome_in run found.0.request) ≡ false = ap is_acceptance (sym (c.verdict-verdict.ensures found.0 found.1)) ∙ sym c.is_acceptance.ensures ∙ c.if-not-is_acceptance.true in
    ap (λ (outcome : Option Outcome). Some (c.loop-at.at, outcome)) (c.verdict-verdict.ensures found.0 found.1)
    ∙ sym (refused-here run requests c.args.first c.loop-at.at found.0 found.1 refused c.loop-at.invariant)

pub returns-clause-is : goal.returns-clause-is
returns-clause-is c =
    let run = run_in c.args.run.now in
    let requests = c.args.plan.now.requests in
    let past : length requests ≤ c.loop-at.at = subst (λ (xs : List RequestEntry). length xs ≤ c.loop-at.at) c.requests-at-end.ensures.value c.loop-at-test.false in
    sym (none-refused run requests c.args.first c.loop-at.at past c.loop-at.invariant)
