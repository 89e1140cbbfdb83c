use Rattle.std.proofs.Common.{◌≡◌, ◌<◌, Some, List, length, option_map, sym, ap, subst, ◌∙◌}
use Rattle.std.proofs.lemmas.Option.{slice_get-get_or}
use Rattle.std.specs.List.{slice_get}
use Rattle.net_units.specs.declared.numbers.ActorNo.{ActorNo}
use Rattle.call_script.specs.declared.entries.RequestEntry.{RequestEntry}
use Rattle.call_script.specs.declared.schedule.Do.{Do}
use Rattle.run_engine.specs.schedules.Schedules.{turns_of}
use Rattle.setup_protocol.specs.State.{outcome_of}
use Rattle.setup_points.specs.Points.{GoesOn}
use Rattle.setup_points.specs.Runs.{run_in}
use Rattle.setup_points.proofs.asked.decided_at.Goals as goal

pub returns : goal.returns
returns c =
    let entry : RequestEntry = c.index-requests-number.result in
    let run = run_in c.in_ok-run.run' in
    let within : c.args.number < length c.requests.result.now = subst (λ (xs : List RequestEntry). c.args.number < length xs) (sym c.requests.ensures.value) c.requires.inside in
    let read : slice_get c.requests.result.now c.args.number ≡ Some entry =
    slice_get-get_or c.requests.result.now c.args.number entry within ∙ ap (λ (e : RequestEntry). Some e) (sym c.index-requests-number.is) in
    let found : slice_get c.args.plan.now.requests c.args.number ≡ Some entry = subst (λ (xs : List RequestEntry). slice_get xs c.args.number ≡ Some entry) c.requests.ensures.value read in
    record {
      entry = entry;
      asked = found;
      run = run;
      goes = subst (λ (turns : List ActorNo). GoesOn c.args.plan.now turns entry.caller run) (ap (λ (items : List Do). turns_of items) c.deref.ensures.value ∙ c.in_ok-front.ensures) c.in_ok-run.ensures.goes;
      decided = sym (c.verdict.ensures entry found) ∙ ap (option_map outcome_of) c.in-Some.is;
      offered = c.in_ok-offers.ensures entry found;
    }
