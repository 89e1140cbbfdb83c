use Rattle.std.proofs.Common.{◌≡◌, ◌<◌, Some, length, refl, sym, ap, ◌∙◌, arith}
use Rattle.std.proofs.lemmas.Option.{slice_get_read}
use Rattle.std.specs.List.{slice_get}
use Rattle.race_run.proofs.Operations.ScriptEnds.{script-begins}
use Rattle.race_run.proofs.scripts.make_script.Goals as goal

pub make_ops-requires-clause-at : goal.make_ops-requires-clause-at
make_ops-requires-clause-at g c κs within =
    let inside : c.args.caller < length c.callers.result.now = (let less = c.requires.is.0 in let same = ap length c.callers.ensures.value in omega (arith, less, same)) in
    let found : slice_get c.args.plan.now.callers c.args.caller ≡ Some c.index-callers-caller.result =
    ap (λ callers. slice_get callers c.args.caller) (sym c.callers.ensures.value) ∙ slice_get_read c.callers.result.now (length c.callers.result.now) c.args.caller c.index-callers-caller.result refl inside c.index-callers-caller.is in
    script-begins c.args.plan.now c.args.caller c.index-callers-caller.result c.args.pass.now c.in_ok-channels.channels.by_number.items c.requests.ensures.valid found c.requires.is.1 c.requires.new.0 (c.in_ok-channels.ensures.count ∙ ap length c.requests.ensures.value) c.in_ok-channels.ensures.none
