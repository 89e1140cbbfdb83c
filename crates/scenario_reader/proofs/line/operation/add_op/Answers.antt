use Rattle.std.proofs.Common.{◌≡◌, ◌+◌, ◌-◌, ◌<◌, length, refl, arith}
use Rattle.std.proofs.lemmas.Option.{slice_get_read}
use Rattle.scenario_reader.proofs.Passing.KeptBesideDraft.{on-ok, set-last}
use Rattle.scenario_reader.proofs.line.operation.add_op.Goals as goal

pub returns-clause-ok : goal.returns-clause-ok
returns-clause-ok c =
    let items = c.args.callers.now.items in
    let place = c.len-last.result - 1 in
    let last : c.len-last.result - 1 + 1 ≡ length c.args.callers.now.items = omega (arith, c.len-last.ensures, c.args.callers.now.ok.0, c.requires) in
    let within : c.len-last.result - 1 < length c.args.callers.now.items = omega (arith, c.len-last.ensures, c.args.callers.now.ok.0, c.requires) in
    let at = slice_get_read items (length items) place c.index_mut.result.now refl within c.index_mut.ensures.value in
    on-ok c.push.result _ _ (λ pushed. set-last items c.args.op place c.index_mut.result.now _ last at (rw pushed refl)) c.push.ensures.ok
