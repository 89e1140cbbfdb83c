use Rattle.std.proofs.Common.{length, refl}
use Rattle.std.proofs.lemmas.Option.{slice_get_read}
use Rattle.scenario_reader.proofs.Passing.KeptBesideDraft.{on-ok, set-quota}
use Rattle.scenario_reader.proofs.line.quota.add_quota.Goals as goal

pub returns-clause-ok : goal.returns-clause-ok
returns-clause-ok c =
    let items = c.args.links.now.items in
    let at = slice_get_read items (length items) c.args.place c.index_mut.result.now refl c.requires c.index_mut.ensures.value in
    on-ok c.push.result _ _ (λ pushed. set-quota items c.args.quota c.args.place c.index_mut.result.now _ at (rw pushed refl)) c.push.ensures.ok
